use Rattle.std.proofs.Common.{◌≡◌, ℕ, ◌<◌, true, length}
use Rattle.hv_sets.specs.Truth.{in_clauses}
use Rattle.hv_propagation.specs.Chase.{IsFollowed, IsKept}
use Rattle.hv_indexes.specs.Places.{clause_at}
use Rattle.hv_propagation.specs.Marks.{over}
use Rattle.hv_propagation.proofs.chase.start.Given as goal

abbrev pub invariant-loop-place : goal.invariant-loop-place
invariant-loop-place l = record {
  followed : IsFollowed (λ state. in_clauses l.clauses (over l.effect state) ≡ true) l.fn.marks
      l.marks true;
  kept : (place : ℕ) → place < l.place → IsKept l.effect (clause_at l.clauses place) l.marks
      (length l.fn.marks.trail);
}
