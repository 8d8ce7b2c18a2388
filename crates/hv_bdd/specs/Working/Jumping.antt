-- What a state holds, by places.
use Rattle.std.specs.Prelude.{◌≡◌, ◌<◌, ◌≤◌, ℕ, Bool, true, List}
use Rattle.std.specs.List.Sorted.{IsNonDecreasing}
use Rattle.hv_task.specs.State.{has_atom, names_atom}
use Rattle.hv_bdd.specs.Jumps.{HoldsNone}
use Rattle.hv_bdd.specs.Nodes.{NodeList, in_node}
use Rattle.hv_bdd.specs.Order.{atom_at}
use Rattle.hv_bdd.specs.Reduced.{top}

-- the places of the atoms that the state holds, in order
pub record HoldsAt (list : NodeList) (s : List Bool) (places : List ℕ) : Type 0 where
  pub rises : IsNonDecreasing places
  pub names : (v : ℕ) → v < list.atoms → names_atom places v ≡ has_atom s (atom_at list v)

-- a state that holds the atom at this place, and none from the place of a node on and before it, is
-- in the node exactly where it is in another, which is listed no later and asks for a later atom
pub record TurnsAt (list : NodeList) (node to place : ℕ) : Type 0 where
  pub upto : to ≤ node
  pub further : top list node ≤ top list to
  pub later : place < top list to
  pub same : (s : List Bool) → HoldsNone list s (top list node) place
      → has_atom s (atom_at list place) ≡ true
      → in_node list node s ≡ in_node list to s
