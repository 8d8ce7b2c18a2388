use Rattle.std.proofs.Common.{◌<◌, ℕ, [], get_or}
use Rattle.hv_explicit.specs.Working.Codes.{IsSame}
use Rattle.hv_explicit.proofs.state_index.has_among.Given as goal

abbrev pub invariant-loop-place : goal.invariant-loop-place
invariant-loop-place g l = (k : ℕ) → k < l.place
    → IsSame (g.A.Sought.has l.held) (get_or l.states k []) → ⊥
