use Rattle.std.proofs.Common.{◌≡◌, ℕ, ◌<◌, ◌-◌, true, length, get_or}
use Rattle.hv_sets.specs.Truth.{in_clauses}
use Rattle.hv_propagation.specs.Chase.{IsFollowed, IsKept}
use Rattle.hv_indexes.specs.Places.{clause_at}
use Rattle.hv_propagation.specs.Marks.{over}
use Rattle.hv_propagation.proofs.chase.visit_in_runs.Given as goal

abbrev pub invariant-loop-index : goal.invariant-loop-index
invariant-loop-index l = record {
  followed : IsFollowed (λ state. in_clauses l.clauses (over l.effect state) ≡ true) l.fn.marks
      l.marks true;
  seen : (k : ℕ) → k < l.index → k < length l.standing.places.now
      → IsKept l.effect (clause_at l.clauses (get_or l.standing.places.now k 0)) l.marks
      (length l.fn.marks.trail);
}

abbrev pub decreases-loop-index : goal.decreases-loop-index
decreases-loop-index l = length l.standing.places.now - l.index
