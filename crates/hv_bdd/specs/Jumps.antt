-- Jumps along the low children of nodes.
use Rattle.std.specs.Prelude.{◌≡◌, ◌<◌, ◌≤◌, ℕ, Bool, true, false, List, length, slice_index}
use Rattle.hv_task.specs.State.{has_atom}
use Rattle.hv_bdd.specs.Nodes.{NodeList, IsNode, in_node, node_count}
use Rattle.hv_bdd.specs.Order.{atom_at}
use Rattle.hv_bdd.specs.Reduced.{top}

-- the state holds no atom at a place from this one on and before another
abbrev pub HoldsNone : NodeList → List Bool → ℕ → ℕ → Type 0
HoldsNone list s from to =
    (v : ℕ) → from ≤ v → v < to → has_atom s (atom_at list v) ≡ false

-- a state that holds no atom from the place of a node on and before this one is in the node exactly
-- where it is in another, which is listed no later and asks for no earlier atom
pub record PassesAlong (list : NodeList) (node to place : ℕ) : Type 0 where
  pub upto : to ≤ node
  pub later : top list node ≤ top list to
  pub same : (s : List Bool) → HoldsNone list s (top list node) place
      → in_node list node s ≡ in_node list to s

-- the jump of a node passes over what is before the place of its end, and that of a listed node
-- leads to an earlier one
pub record IsJump (list : NodeList) (node to : ℕ) : Type 0 where
  pub passes : PassesAlong list node to (top list to)
  pub less : 2 ≤ node → to < node

-- the jumps of the first nodes
pub record AreJumps (list : NodeList) (jumps : List ℕ) : Type 0 where
  pub few : length jumps ≤ node_count list
  pub each : (i : ℕ) → i < length jumps → IsJump list i (slice_index jumps i)

-- the states that are looked for are in the node, or outside it, and the jumps are those of nodes
pub record StandsAtNode (list : NodeList) (inside : Bool) (wanted : List Bool → Bool) (node : ℕ)
    (jumps : List ℕ) : Type 0 where
  pub within : IsNode list node
  pub side : (s : List Bool) → wanted s ≡ true → in_node list node s ≡ inside
  pub known : AreJumps list jumps
