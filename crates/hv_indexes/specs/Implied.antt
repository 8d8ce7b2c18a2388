-- What a literal implies at once.
use Rattle.std.specs.Prelude.{◌≡◌, ◌<◌, ◌+◌, ◌*◌, ◌⊎◌, ◌↔◌, ◌∷◌, ℕ, List, [], cond}
use Rattle.std.specs.Prelude.{length}
use Rattle.std.specs.Prelude.{slice_index_or}
use Rattle.std.specs.List.{All, Contains}
use Rattle.std.specs.List.Sorted.{IsStrictlyIncreasing}
use Rattle.hv_sets.specs.declared.literal.Literal.{Literal}
use Rattle.hv_sets.specs.Cubes.{opposite}
use Rattle.hv_indexes.specs.declared.implication_lists.ImplicationLists.{ImplicationLists}
use Rattle.hv_indexes.specs.declared.implication_lists.ImplicationLists.TheVariants as I
use Rattle.hv_indexes.specs.declared.rows.RowHead.{RowHead}
use Rattle.hv_indexes.specs.Rows.{AreRows}

-- the number of a literal: twice its atom, and one more where it is negative
abbrev pub literal_number : Literal → ℕ
literal_number literal = 2 * literal.atom + cond literal.positive 0 1

-- the literal is the one or the other
abbrev pub IsEither : Literal → Literal → Literal → Type 0
IsEither first second literal = (literal ≡ first) ⊎ (literal ≡ second)

-- the clause has these two literals, which may be one, and no other
pub record IsPair (clause : List Literal) (first second : Literal) : Type 0 where
  pub has_first : Contains clause first
  pub has_second : Contains clause second
  pub only : All (IsEither first second) clause

-- some clause has the opposite of the first literal, has the second one, and has no other
abbrev pub Implies : List (List Literal) → Literal → Literal → Type 0
Implies clauses literal other =
    (place : ℕ) × (place < length clauses)
    × IsPair (slice_index_or clauses place []) (opposite literal) other

-- the numbers, rising, of all literals that the literal implies at once
pub record AreImplied (clauses : List (List Literal)) (literal : Literal)
    (numbers : List ℕ) : Type 0 where
  pub rises : IsStrictlyIncreasing numbers
  pub has : (number : ℕ)
      → Contains numbers number ↔ ((other : Literal) × (number ≡ literal_number other)
      × Implies clauses literal other)

-- the numbers are those of a literal and of one that it implies at once
abbrev pub ImpliesNumber : List (List Literal) → ℕ → ℕ → Type 0
ImpliesNumber clauses key number =
    (literal : Literal) × (other : Literal) × (key ≡ literal_number literal)
    × (number ≡ literal_number other) × Implies clauses literal other

-- where the numbers of what each literal implies begin, by rising numbers of literals
abbrev pub implied_heads : ImplicationLists → List RowHead
implied_heads (I.Listed lists) = lists.value.heads.items
implied_heads (I.Lone key numbers) = record { key = key; start = 0 } ∷ []
implied_heads I.Nothing = []

-- the numbers of what each literal implies, one after the other
abbrev pub implied_numbers : ImplicationLists → List ℕ
implied_numbers (I.Listed lists) = lists.value.numbers.items
implied_numbers (I.Lone key numbers) = numbers
implied_numbers I.Nothing = []

-- the lists keep, for the number of each literal, the numbers of those that it implies at once
abbrev pub AreImplications : List (List Literal) → ImplicationLists → Type 0
AreImplications clauses lists =
    AreRows (ImpliesNumber clauses) (implied_heads lists) (implied_numbers lists)
