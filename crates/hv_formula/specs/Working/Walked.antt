-- The walk over the clauses of a formula.
use Rattle.std.specs.Prelude.{ℕ, false, List, map, slice_index_or}
use Rattle.hv_sets.specs.declared.literal.Literal.{Literal}
use Rattle.hv_sets.specs.Cubes.{opposite}
use Rattle.hv_indexes.specs.Orders.{place_in}

-- the opposite of the literal at the place for which the code stands
abbrev pub denial_for : List Literal → ℕ → Literal
denial_for clause c =
    opposite (slice_index_or clause (place_in c) (record { atom = 0; positive = false }))

-- the opposites of the literals, in the order of the codes
abbrev pub denied_along : List Literal → List ℕ → List Literal
denied_along clause codes = map (denial_for clause) codes
