use Rattle.std.proofs.Common.{◌≡◌, ◌<◌, ℕ, true, false, get_or}
use Rattle.hv_sets.specs.Truth.{in_clause}
use Rattle.hv_indexes.specs.Places.{clause_at}
use Rattle.hv_indexes.specs.Signed.{StandsAs}
use Rattle.hv_formula.proofs.first_states.are_true_under.Given as goal

abbrev pub invariant-loop-at : goal.invariant-loop-at
invariant-loop-at l =
    (k c : ℕ) → k < l.at → StandsAs false l.bare.clauses.now (get_or l.held k 0) c
    → in_clause (clause_at l.bare.clauses.now c) l.state ≡ true
