-- Live tuples: what the cost of a query over diagrams counts.
use Rattle.std.specs.Prelude.{◌+◌, ◌-◌, ◌++◌, ℕ, zero, suc, Bool, true, false, List, Option, None}
use Rattle.std.specs.Prelude.{Some, cond, map, nat_lt, replicate, slice_index_or}
use Rattle.std.proofs.Math.Bool.{beq}
use Rattle.hv_task.specs.declared.action.Action.{Action}
use Rattle.std.specs.List.{range_with_len}
use Rattle.hv_task.specs.State.{has_atom, names_atom, state_of}
use Rattle.hv_task.specs.Strips.{Strips, atoms, start_state}
use Rattle.hv_sets.specs.declared.operand.Operand.{Operand}
use Rattle.hv_sets.specs.declared.operand.Which.{Which}
use Rattle.hv_sets.specs.declared.operand.Which.TheVariants as W
use Rattle.hv_sets.specs.declared.query.Query.{Query}
use Rattle.hv_sets.specs.Query.{action_of}
use Rattle.hv_bdd.specs.declared.asked.Asked.{Asked}
use Rattle.hv_bdd.specs.Nodes.{NodeList}
use Rattle.hv_bdd.specs.Order.{atom_at}
use Rattle.hv_bdd.specs.Reduced as diagram
use Rattle.hv_bdd.specs.Tuples.{Moves, TuplesPass}

-- Marks: for each atom a bit, or none.

-- no marks for so many atoms
abbrev pub no_marks : ℕ → List (Option Bool)
no_marks atoms = replicate atoms None

-- the mark of an atom
abbrev pub bit_mark_of : List (Option Bool) → ℕ → Option Bool
bit_mark_of marks atom = slice_index_or marks atom None

-- the marked bit, or else this one
abbrev pub bit_or : Option Bool → Bool → Bool
bit_or None bit = bit
bit_or (Some marked) bit = marked

-- the bit is the marked one, if one is
abbrev pub is_marked : Option Bool → Bool → Bool
is_marked None bit = true
is_marked (Some marked) bit = beq marked bit

-- what an action needs of an atom: the bit 1 where the atom is in its precondition
abbrev pub needed_at : Action → ℕ → Option Bool
needed_at action atom = cond (names_atom action.pre atom) (Some true) None

-- what it makes of an atom: the bit 1 where it adds the atom, and 0 where it deletes it and doesn't
-- add it
abbrev pub changed_at : Action → ℕ → Option Bool
changed_at action atom =
    cond (names_atom action.add atom) (Some true)
    (cond (names_atom action.del atom) (Some false) None)

-- the marks of all atoms: what an action needs
abbrev pub needed_by : ℕ → Option Action → List (Option Bool)
needed_by atoms None = no_marks atoms
needed_by atoms (Some action) = map (needed_at action) (range_with_len 0 atoms)

-- and what it changes
abbrev pub changed_by : ℕ → Option Action → List (Option Bool)
changed_by atoms None = no_marks atoms
changed_by atoms (Some action) = map (changed_at action) (range_with_len 0 atoms)

-- Chains: graphs that ask for some places in their order and want a bit at each. Node v + 2 asks
-- for place v.

-- the first place that is asked for, of so many places from this one on, as a node; 1 where there
-- is none
abbrev pub first_asked : (ℕ → Bool) → ℕ → ℕ → ℕ
first_asked asks zero v = 1
first_asked asks (suc more) v = cond (asks v) (v + 2) (first_asked asks more (v + 1))

-- the place that a node of a chain asks for, or the number of atoms at an end
abbrev pub chain_top : ℕ → ℕ → ℕ
chain_top atoms node = cond (nat_lt node 2) atoms (node - 2)

-- with the wanted bit it goes on to the next place, and else to node 0
abbrev pub chain_child : ℕ → (ℕ → Bool) → (ℕ → Bool) → ℕ → Bool → ℕ
chain_child atoms asks bits node bit =
    cond (beq bit (bits (node - 2))) (first_asked asks (atoms - (node - 1)) (node - 1)) 0

-- what tuples move through: the nodes, the initial state and the goal as flags by atom, what the
-- state before the action needs, and what the action changes
pub record TupleSetting : Type 0 where
  pub list : NodeList
  pub start : List Bool
  pub goal : List Bool
  pub needed : List (Option Bool)
  pub changed : List (Option Bool)

-- the chain of the initial state asks for every place, and wants the bits of that state
abbrev pub start_bit : TupleSetting → ℕ → Bool
start_bit s v = has_atom s.start (atom_at s.list v)

-- the chain of the goal asks for the places of its atoms, and wants the bit 1 at each
abbrev pub asks_goal : TupleSetting → ℕ → Bool
asks_goal s v = has_atom s.goal (atom_at s.list v)

-- the node with which the graph of a set begins
abbrev pub root : TupleSetting → Which → ℕ
root s W.Empty = 0
root s W.Start = first_asked (λ v. true) s.list.atoms 0
root s W.Goal = first_asked (asks_goal s) s.list.atoms 0
root s (W.Set number) = number

-- the place that a node of a set's graph asks for, or the number of atoms at an end
abbrev pub graph_top : TupleSetting → Which → ℕ → ℕ
graph_top s (W.Set number) node = diagram.top s.list node
graph_top s which node = chain_top s.list.atoms node

-- the node to which a bit leads from it
abbrev pub graph_child : TupleSetting → Which → ℕ → Bool → ℕ
graph_child s W.Empty node bit = 0
graph_child s W.Start node bit = chain_child s.list.atoms (λ v. true) (start_bit s) node bit
graph_child s W.Goal node bit = chain_child s.list.atoms (asks_goal s) (λ v. true) node bit
graph_child s (W.Set number) node bit = diagram.child s.list node bit

-- the moves: an operand that is asked after the action sees the changed bit
abbrev pub moves : TupleSetting → Moves Asked
moves s = record {
  atoms = s.list.atoms;
  atom_at = atom_at s.list;
  top = λ o node. graph_top s o.which node;
  child = λ o node bit. graph_child s o.which node bit;
  wants = λ o. o.positive;
  seen = λ o v bit. cond o.after (bit_or (bit_mark_of s.changed (atom_at s.list v)) bit) bit;
  allows = λ v bit. is_marked (bit_mark_of s.needed (atom_at s.list v)) bit;
}

-- the tuple of the roots
abbrev pub roots : TupleSetting → List Asked → List ℕ
roots s os = map (λ o. root s o.which) os

-- what queries are asked about: the nodes of a file, and a task
pub record NodeTask : Type 0 where
  pub list : NodeList
  pub task : Strips

-- an operand of a query in a tuple
abbrev pub asked_of : Bool → Operand → Asked
asked_of positive o = record { which = o.which; after = o.after; positive = positive }

-- the operands of a query in its tuples: the positive ones, and then the negative ones
abbrev pub operands_of : Query → List Asked
operands_of query = map (asked_of true) query.positive ++ map (asked_of false) query.negative

-- what the tuples of a query move through
abbrev pub tuple_setting_of : NodeList → Strips → Query → TupleSetting
tuple_setting_of list task query = record {
  list = list;
  start = start_state task;
  goal = state_of (atoms task) task.goal;
  needed = needed_by (atoms task) (action_of task query.action);
  changed = changed_by (atoms task) (action_of task query.action);
}

-- the cost of a query is the number of live tuples: more than the budget are reached
abbrev pub LivePass : NodeList → Strips → Query → ℕ → Type 0
LivePass list task query budget =
    TuplesPass (moves (tuple_setting_of list task query)) (operands_of query)
    (roots (tuple_setting_of list task query) (operands_of query)) budget
