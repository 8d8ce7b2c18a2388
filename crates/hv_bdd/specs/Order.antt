-- The order in which diagrams ask for atoms: each atom has a place in it, and whatever is said of
-- diagrams is said by places.
use Rattle.std.specs.Prelude.{◌≡◌, ◌<◌, ◌+◌, ℕ, List, [], ◌∷◌, Option, None, Some, cond}
use Rattle.std.specs.Prelude.{length, nat_eq, slice_index_or}
use Rattle.hv_bdd.specs.Nodes.{NodeList}

-- where the atom occurs first in the list, from 0
abbrev pub position : List ℕ → ℕ → ℕ
position [] atom = 0
position (first ∷ order) atom = cond (nat_eq first atom) 0 (position order atom + 1)

-- the place of an atom: where it is in the order, or its own number where atoms rise
abbrev pub place_by : Option (List ℕ) → ℕ → ℕ
place_by None atom = atom
place_by (Some order) atom = position order atom

-- the atom at a place; past the last place the number of atoms, which is none of them
abbrev pub atom_by : Option (List ℕ) → ℕ → ℕ
atom_by None place = place
atom_by (Some order) place = slice_index_or order place (length order)

-- the same by the order of a list of nodes
unfoldable pub place : NodeList → ℕ → ℕ
place list atom = place_by list.order atom

-- and the atom at a place
unfoldable pub atom_at : NodeList → ℕ → ℕ
atom_at list place = atom_by list.order place

-- the order of the list has as many places as there are atoms: each atom has one place, and at each
-- place there is one atom
pub record IsOrder (list : NodeList) : Type 0 where
  pub size : (order : List ℕ) → list.order ≡ Some order → length order ≡ list.atoms
  pub atom_in : (v : ℕ) → v < list.atoms → atom_at list v < list.atoms
  pub place_in : (a : ℕ) → a < list.atoms → place list a < list.atoms
  pub there : (a : ℕ) → a < list.atoms → atom_at list (place list a) ≡ a
  pub back : (v : ℕ) → v < list.atoms → place list (atom_at list v) ≡ v
