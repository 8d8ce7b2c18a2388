-- The nodes of decision diagrams, and when a state is in one.
use Rattle.std.specs.Prelude.{ℕ, zero, suc, ◌+◌, ◌-◌, ◌<◌, Bool, List, [], Option, Some, None, cond}
use Rattle.std.specs.Prelude.{length, nat_eq, nat_lt, slice_get}
use Rattle.hv_task.specs.State.{has_atom}
use Rattle.hv_bdd.specs.declared.node.Node.{Node}

-- the nodes of a file over so many atoms: node 0 is false, node 1 is true, and the listed ones are
-- numbered from 2 on
pub record NodeList : Type 0 where
  pub atoms : ℕ
  -- the atoms in the order in which nodes ask for them; without one they rise
  pub order : Option (List ℕ)
  pub nodes : List Node

-- the nodes 0 and 1 alone, over so many atoms in rising order: those of a task without a node file
abbrev pub no_nodes : ℕ → NodeList
no_nodes atoms = record { atoms = atoms; order = None; nodes = [] }

-- the same where the atoms come in this order
abbrev pub no_nodes_by : ℕ → List ℕ → NodeList
no_nodes_by atoms order = record { atoms = atoms; order = Some order; nodes = [] }

-- how many nodes there are, 0 and 1 among them
abbrev pub node_count : NodeList → ℕ
node_count list = length list.nodes + 2

-- the number is that of a node
abbrev pub IsNode : NodeList → ℕ → Type 0
IsNode list node = node < node_count list

-- where the walk goes from a listed node: to `high` where the state has its atom, else to `low`
abbrev pub child_of : Option Node → List Bool → ℕ
child_of None state = 0
child_of (Some node) state = cond (has_atom state node.atom) node.high node.low

-- the next node of the walk; it stays at the ends 0 and 1
abbrev pub next_node : NodeList → List Bool → ℕ → ℕ
next_node list state node =
    cond (nat_lt node 2) node (child_of (slice_get list.nodes (node - 2)) state)

-- where the walk is after so many steps
abbrev pub walk : NodeList → List Bool → ℕ → ℕ → ℕ
walk list state zero node = node
walk list state (suc steps) node = walk list state steps (next_node list state node)

-- the walk ends at node 1: since each step leads to a lower number, it takes no more steps than
-- there are nodes
abbrev pub in_node : NodeList → ℕ → List Bool → Bool
in_node list node state = nat_eq (walk list state (length list.nodes) node) 1
