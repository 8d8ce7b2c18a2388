-- The walk over the clauses of a formula.
use Rattle.std.specs.Prelude.{ℕ, List, map}
use Rattle.hv_sets.specs.declared.literal.Literal.{Literal}
use Rattle.hv_sets.specs.Cubes.{opposite}
use Rattle.hv_indexes.specs.Places.{clause_at}
use Rattle.hv_indexes.specs.Orders.{place_in}

-- the opposites of the literals, in their order
abbrev pub opposed : List Literal → List Literal
opposed clause = map opposite clause

-- the cubes in which the clauses are false, in the order of the codes
abbrev pub opposed_in : List (List Literal) → List ℕ → List (List Literal)
opposed_in clauses codes = map (λ c. opposed (clause_at clauses (place_in c))) codes
