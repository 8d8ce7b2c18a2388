use Rattle.std.proofs.Common.{◌≡◌, ◌<◌, ℕ, true, get_or}
use Rattle.hv_sets.specs.Truth.{in_clause}
use Rattle.hv_indexes.specs.Places.{clause_at}
use Rattle.hv_formula.proofs.first_states.are_true_at.Given as goal

abbrev pub invariant-loop-index : goal.invariant-loop-index
invariant-loop-index l =
    (k : ℕ) → k < l.index
    → in_clause (clause_at l.clauses (get_or l.standing.places.now k 0)) l.state ≡ true
