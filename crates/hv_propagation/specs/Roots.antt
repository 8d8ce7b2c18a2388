-- What is known beside an effect.
use Rattle.std.specs.Prelude.{◌≡◌, ◌<◌, ℕ, Bool, false, List, [], ◌∷◌, Option, None, Some, length}
use Rattle.std.specs.List.{All}
use Rattle.hv_sets.specs.declared.literal.Literal.{Literal}
use Rattle.hv_indexes.specs.Places.{clause_at}
use Rattle.hv_propagation.specs.Marks.{known}
use Rattle.hv_propagation.specs.Units.{IsSettled, value_of}

-- the literal put before the others, unless something is said
abbrev pub put_unless : Option Bool → Literal → List Literal → List Literal
put_unless None literal literals = literal ∷ literals
put_unless (Some value) literal literals = literals

-- the literals of whose atoms the effect says nothing
abbrev pub untouched : List ℕ → List Literal → List Literal
untouched effect [] = []
untouched effect (l ∷ ls) = put_unless (known effect l.atom) l (untouched effect ls)

-- each clause is settled of which the effect makes no literal false
abbrev pub AreSettledBut : List ℕ → List (List Literal) → List ℕ → Type 0
AreSettledBut effect clauses marks =
    (place : ℕ) → place < length clauses
    → All (λ l. value_of effect [] l ≡ Some false → ⊥) (clause_at clauses place)
    → IsSettled effect marks (clause_at clauses place)
