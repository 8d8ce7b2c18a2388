-- Which clauses are true in a cube.
use Rattle.std.specs.Prelude.{◌≡◌, ◌<◌, ◌≤◌, ◌⊎◌, ℕ, Bool, true, false, List, [], slice_index_or}
use Rattle.hv_sets.specs.declared.literal.Literal.{Literal}
use Rattle.hv_sets.specs.Truth.{in_clause, in_literal}
use Rattle.hv_formula.specs.declared.arranged.Arranged.{Arranged}
use Rattle.hv_indexes.specs.Places.{clause_at}
use Rattle.hv_formula.specs.Rest.{AreTrueUpto}

-- the first so many entries are as they were
abbrev pub KeepsUpto : ℕ → List ℕ → List ℕ → Type 0
KeepsUpto upto old new =
    (k : ℕ) → k < upto → slice_index_or new k 0 ≡ slice_index_or old k 0

-- from this place on, the clauses at the first so many places of the order are true where the
-- literal is
abbrev pub AreTrueFrom : List (List Literal) → Literal → List ℕ → ℕ → ℕ → Type 0
AreTrueFrom clauses literal order from upto =
    (k : ℕ) → from ≤ k → k < upto → (s : List Bool) → in_literal literal s ≡ true
    → in_clause (clause_at clauses (slice_index_or order k 0)) s ≡ true

-- the list was made before and stays; or it is made now, and tells of clauses that are true in each
-- state
abbrev pub IsMade : List (List Literal) → Bool → Arranged → Arranged → Type 0
IsMade clauses ready old new =
    ((ready ≡ true) × (new ≡ old))
    ⊎ ((ready ≡ false) × AreTrueUpto clauses [] new.order.items new.done)
