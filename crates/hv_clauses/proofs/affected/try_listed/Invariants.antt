use Rattle.std.proofs.Common.{◌≡◌, ℕ, ◌<◌, Bool, List, length, get_or}
use Rattle.hv_clauses.specs.Working.Problem.{FitsChoice}
use Rattle.hv_clauses.specs.Working.Posed.{width}
use Rattle.hv_clauses.proofs.affected.try_listed.Given as goal

abbrev pub invariant-loop-index : goal.invariant-loop-index
invariant-loop-index g l = record {
  none : (k : ℕ) → k < l.index → (state : List Bool) → length state ≡ width l.problem
      → FitsChoice l.problem (get_or l.standing.places.now k 0) state → ⊥;
  same : l.marks ≡ l.fn.marks;
  state : length l.state ≡ length l.fn.state;
}
