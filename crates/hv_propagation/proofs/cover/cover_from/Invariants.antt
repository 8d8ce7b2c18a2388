use Rattle.std.proofs.Common.{◌≡◌, ℕ, ◌<◌, Bool, List, true, length}
use Rattle.hv_sets.specs.Truth.{in_clause}
use Rattle.hv_indexes.specs.Places.{clause_at}
use Rattle.hv_propagation.specs.Marks.{Agrees}
use Rattle.hv_propagation.specs.Trail.{marks_of}
use Rattle.hv_propagation.proofs.cover.cover_from.Given as goal

abbrev pub invariant-loop-place : goal.invariant-loop-place
invariant-loop-place l = record {
  same : l.marks ≡ l.initial.marks;
  holds : (state : List Bool) → length state ≡ length l.initial.marks.roots
      → Agrees (marks_of l.initial.marks) state
      → (k : ℕ) → k < l.place → in_clause (clause_at l.clauses k) state ≡ true;
  state : length l.state ≡ length l.fn.state;
}
