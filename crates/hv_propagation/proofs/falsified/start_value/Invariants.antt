use Rattle.std.proofs.Common.{◌≡◌, ℕ, ◌<◌, Some, true, not, get_or}
use Rattle.hv_sets.specs.Truth.{in_clauses}
use Rattle.hv_propagation.specs.Chase.{IsFollowed, IsKept}
use Rattle.hv_indexes.specs.Places.{clause_at}
use Rattle.hv_indexes.specs.Signed.{StandsAs}
use Rattle.hv_propagation.specs.Marks.{known, over}
use Rattle.hv_propagation.proofs.falsified.start_value.Given as goal

abbrev pub invariant-loop-atom : goal.invariant-loop-atom
invariant-loop-atom l = record {
  followed : IsFollowed (λ state. in_clauses l.clauses (over l.effect state) ≡ true) l.fn.marks
      l.marks true;
  seen : (k : ℕ) → k < l.atom-index → known l.effect (get_or l.turned k 0) ≡ Some l.value
      → (place : ℕ) → StandsAs (not l.value) l.clauses (get_or l.turned k 0) place
      → IsKept l.effect (clause_at l.clauses place) l.marks 0;
}
