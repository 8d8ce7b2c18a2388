use Rattle.std.proofs.Common.{◌<◌, ℕ, []}
use Rattle.std.specs.Prelude.{slice_index_or}
use Rattle.hv_formula.proofs.formula.first_other.Given as goal

abbrev pub invariant-loop-place : goal.invariant-loop-place
invariant-loop-place g l = (k : ℕ) → k < l.place
    → g.K.ClauseKind.is_of (slice_index_or l.clauses k [])
