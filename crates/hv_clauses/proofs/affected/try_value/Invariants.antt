use Rattle.std.proofs.Common.{◌≡◌, ℕ, ◌<◌, Bool, List, length, get_or}
use Rattle.hv_clauses.specs.Working.Problem.{FitsChoice}
use Rattle.hv_indexes.specs.Signed.{StandsAs}
use Rattle.hv_clauses.specs.Working.Posed.{formulas, width}
use Rattle.hv_clauses.proofs.affected.try_value.Given as goal

abbrev pub invariant-loop-atom : goal.invariant-loop-atom
invariant-loop-atom g l = record {
  none : (k : ℕ) → k < l.atom-index → (number : ℕ)
      → StandsAs l.sign (formulas l.problem l.touched.number) (get_or l.turned k 0) number
      → (state : List Bool) → length state ≡ width l.problem
      → FitsChoice l.problem number state → ⊥;
  same : l.marks ≡ l.fn.marks;
  state : length l.state ≡ length l.fn.state;
}
