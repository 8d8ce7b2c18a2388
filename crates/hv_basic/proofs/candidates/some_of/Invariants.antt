use Rattle.std.proofs.Common.{◌≡◌, ℕ, Some, map, take}
use Rattle.hv_basic.proofs.candidates.some_of.Given as goal

abbrev pub invariant-loop-number : goal.invariant-loop-number
invariant-loop-number l = l.actions.items ≡ map (λ (n : ℕ). Some n) (take l.number-index l.numbers)
