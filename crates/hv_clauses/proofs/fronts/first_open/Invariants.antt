use Rattle.std.proofs.Common.{◌≡◌, ℕ, ◌<◌, ◌≤◌, ◌/◌, ◌-◌, Bool, List, length}
use Rattle.hv_clauses.specs.Working.Problem.{FitsChoice}
use Rattle.hv_clauses.specs.Working.Posed.{width}
use Rattle.hv_clauses.proofs.fronts.first_open.Given as goal

abbrev pub invariant-loop-rest : goal.invariant-loop-rest
invariant-loop-rest g l = record {
  ahead : l.next / l.part ≤ l.rest;
  none : (number : ℕ) → l.next ≤ number → number / l.part < l.rest → (state : List Bool)
      → length state ≡ width l.problem → FitsChoice l.problem number state → ⊥;
  same : l.marks ≡ l.fn.marks;
}

abbrev pub decreases-loop-rest : goal.decreases-loop-rest
decreases-loop-rest g l = l.end - l.rest
