-- Bits that are read off lists.
use Rattle.std.specs.Prelude.{◌≡◌, ◌<◌, ℕ, Bool, true, false, List, Option, None, Some, MatchOption}
use Rattle.std.specs.Prelude.{cond, length, map, slice_index_or}
use Rattle.std.specs.List.{range_with_len}
use Rattle.hv_task.specs.State.{names_atom}
use Rattle.hv_sets.specs.declared.literal.Literal.{Literal}

-- the bit of an atom: 1 at the atoms of one list, and 0 at further ones of another list
abbrev pub listed_mark : List ℕ → List ℕ → ℕ → Option Bool
listed_mark ones zeros atom =
    cond (names_atom ones atom) (Some true) (cond (names_atom zeros atom) (Some false) None)

-- the bits of so many atoms
abbrev pub listed_marks : ℕ → List ℕ → List ℕ → List (Option Bool)
listed_marks atoms ones zeros = map (listed_mark ones zeros) (range_with_len 0 atoms)

-- the literal at a place of a list
abbrev pub literal_at : List Literal → ℕ → Literal
literal_at literals k = slice_index_or literals k record { atom = 0; positive = false }

-- the sign of a literal of the atom, or that there is none
abbrev pub IsSignOf : List Literal → ℕ → Option Bool → Type 0
IsSignOf literals atom sign =
    MatchOption sign
    ((k : ℕ) → k < length literals → (literal_at literals k).atom ≡ atom → ⊥)
    (λ positive. (k : ℕ) × (k < length literals) × ((literal_at literals k).atom ≡ atom)
    × ((literal_at literals k).positive ≡ positive))
