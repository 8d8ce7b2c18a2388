-- Places of clauses.
use Rattle.std.specs.Prelude.{ℕ, List, [], slice_index_or}
use Rattle.hv_sets.specs.declared.literal.Literal.{Literal}

-- the clause at this place
abbrev pub clause_at : List (List Literal) → ℕ → List Literal
clause_at clauses place = slice_index_or clauses place []
