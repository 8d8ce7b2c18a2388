use Rattle.std.proofs.Common.{◌<◌, ℕ, [], get_or}
use Rattle.std.specs.List.{All, Contains}
use Rattle.hv_explicit.proofs.idle.applies_nowhere.Given as goal

abbrev pub invariant-loop-place : goal.invariant-loop-place
invariant-loop-place l = (k : ℕ) → k < l.place
    → All (λ p. Contains (get_or l.states k []) p) l.action.pre → ⊥
