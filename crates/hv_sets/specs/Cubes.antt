-- Cubes as lists of literals whose atoms rise.
use Rattle.std.specs.Prelude.{◌≡◌, ◌<◌, ◌⊎◌, ◌↔◌, ℕ, List, [], ◌∷◌, cond, map, nat_eq, nat_lt, not}
use Rattle.std.specs.List.{All, Contains, fold}
use Rattle.std.specs.List.Sorted.{IsStrictlyIncreasing}
use Rattle.hv_sets.specs.declared.literal.Literal.{Literal}

-- the atoms of the literals, in order
abbrev pub atoms_of : List Literal → List ℕ
atoms_of literals = map (λ l. l.atom) literals

-- the literals speak of atoms below this number alone
abbrev pub SpeakBelow : ℕ → List Literal → Type 0
SpeakBelow bound literals = All (λ l. l.atom < bound) literals

-- the literal of the same atom with the other sign
abbrev pub opposite : Literal → Literal
opposite literal = record { atom = literal.atom; positive = not literal.positive }

-- the new cube is the old one with this literal put in: its atoms rise, and it has the literals of
-- the old one and this one
pub record Adds (old : List Literal) (literal : Literal) (new : List Literal) : Type 0 where
  pub rises : IsStrictlyIncreasing (atoms_of new)
  pub has : (l : Literal) → Contains new l ↔ (Contains old l ⊎ (l ≡ literal))

-- the cube with one literal more, by rising atoms; where a literal of its atom stands, the cube
-- stays as it is
abbrev pub put_in : Literal → List Literal → List Literal
put_in literal [] = literal ∷ []
put_in literal (l ∷ ls) =
    cond (nat_lt l.atom literal.atom) (l ∷ put_in literal ls)
    (cond (nat_eq l.atom literal.atom) (l ∷ ls) (literal ∷ l ∷ ls))

-- the cube of these literals, put in one after the other
abbrev pub cube_of : List Literal → List Literal
cube_of literals = fold (λ cube l. put_in l cube) [] literals
