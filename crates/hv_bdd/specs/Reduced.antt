-- Reduced ordered node lists, in which different nodes are different sets.
use Rattle.std.specs.Prelude.{◌≡◌, ◌<◌, ◌≤◌, ◌-◌, ℕ, Bool, List, cond, length, nat_lt}
use Rattle.std.specs.Prelude.{slice_index_or}
use Rattle.hv_bdd.specs.declared.node.Node.{Node}
use Rattle.hv_bdd.specs.Nodes.{NodeList, in_node, node_count}
use Rattle.hv_bdd.specs.Order.{IsOrder, place}

-- the listed node of this number
abbrev pub node_at : NodeList → ℕ → Node
node_at list node = slice_index_or list.nodes (node - 2) record { atom = 0; low = 0; high = 0 }

-- the place in the order of the atom for which a node asks; the nodes 0 and 1 ask for none, and
-- have the place past all atoms
abbrev pub top : NodeList → ℕ → ℕ
top list node = cond (nat_lt node 2) list.atoms (place list (node_at list node).atom)

-- the node that a bit leads to: the high one for an atom that is held
abbrev pub child : NodeList → ℕ → Bool → ℕ
child list node bit = cond bit (node_at list node).high (node_at list node).low

-- the list is reduced and ordered, and no longer than a node file may be
pub record IsReduced (list : NodeList) : Type 0 where
  -- its order is one of the atoms
  pub ordered : IsOrder list
  -- each node asks for an atom of the task
  pub atom : (i : ℕ) → 2 ≤ i → i < node_count list → (node_at list i).atom < list.atoms
  -- its children are listed before it
  pub low : (i : ℕ) → 2 ≤ i → i < node_count list → (node_at list i).low < i
  pub high : (i : ℕ) → 2 ≤ i → i < node_count list → (node_at list i).high < i
  -- they ask for later atoms
  pub low_later : (i : ℕ) → 2 ≤ i → i < node_count list → top list i < top list (node_at list i).low
  pub high_later : (i : ℕ) → 2 ≤ i → i < node_count list
      → top list i < top list (node_at list i).high
  -- they are two
  pub apart : (i : ℕ) → 2 ≤ i → i < node_count list → (node_at list i).low ≡ (node_at list i).high
      → ⊥
  -- no two nodes have the same atom and children
  pub twinless : (i j : ℕ) → 2 ≤ i → i < node_count list → 2 ≤ j → j < node_count list
      → node_at list i ≡ node_at list j → i ≡ j
  pub few : length list.nodes ≤ 16777216

-- the two nodes denote one set: each state of the task is in both or in neither
abbrev pub AreOneSet : NodeList → ℕ → ℕ → Type 0
AreOneSet list left right = (state : List Bool) → length state ≡ list.atoms
    → in_node list left state ≡ in_node list right state
