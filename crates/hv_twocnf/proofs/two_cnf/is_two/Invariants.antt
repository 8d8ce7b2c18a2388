use Rattle.std.proofs.Common.{◌≡◌, ◌<◌, ℕ, false}
use Rattle.std.specs.Prelude.{slice_index_or}
use Rattle.hv_twocnf.proofs.two_cnf.is_two.Given as goal

abbrev pub invariant-loop-literal : goal.invariant-loop-literal
invariant-loop-literal l =
    (k : ℕ) → k < l.literal-index → slice_index_or l.clause k
    (record { atom = 0; positive = false }) ≡ l.first
