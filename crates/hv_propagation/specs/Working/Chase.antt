-- Clauses that have one literal, and are settled.
use Rattle.std.specs.Prelude.{◌<◌, ◌≤◌, ℕ, List, length, slice_index}
use Rattle.hv_sets.specs.declared.literal.Literal.{Literal}
use Rattle.hv_indexes.specs.declared.occurrences.Standing.{Standing}
use Rattle.hv_indexes.specs.Occurrences.{AreStanding}
use Rattle.hv_indexes.specs.Places.{clause_at}
use Rattle.hv_propagation.specs.Units.{IsSettled}

-- the clause at which a literal stands there is settled, whichever the clauses are
abbrev pub IsSettledAt : List ℕ → List ℕ → Standing → ℕ → Type 0
IsSettledAt effect marks standing k =
    (clauses : List (List Literal)) → AreStanding clauses standing → k < length standing.places.now
    → IsSettled effect marks (clause_at clauses (slice_index standing.places.now k))

-- so are those from one place on and before another one
abbrev pub AreSettledBetween : List ℕ → List ℕ → Standing → ℕ → ℕ → Type 0
AreSettledBetween effect marks standing from upto =
    (k : ℕ) → from ≤ k → k < upto → IsSettledAt effect marks standing k
