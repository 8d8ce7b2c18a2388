-- Working definitions beside those of `NodeText`: for private contracts and proofs.
use Rattle.std.specs.Prelude.{◌≡◌, ◌<◌, ◌≤◌, ◌^◌, ℕ, List, [], Option, None, Some, Result, Ok}
use Rattle.std.specs.Prelude.{Err}
use Rattle.hv_grammar.specs.declared.fault.ParseFault.{ParseFault}
use Rattle.hv_bdd.specs.declared.fault.NodeRefusal.{NodeRefusal}
use Rattle.hv_bdd.specs.declared.first.FirstLine.{FirstLine}
use Rattle.hv_bdd.specs.declared.first.FirstLine.TheVariants as L
use Rattle.hv_bdd.specs.declared.node.Node.{Node}
use Rattle.hv_bdd.specs.declared.numbers.Triple.{Triple}
use Rattle.hv_bdd.specs.NodeText.{header_line, node_line}
use Rattle.hv_bdd.specs.Nodes.{NodeList}
use Rattle.hv_bdd.specs.Order.{IsOrder}
use Rattle.hv_bdd.specs.Working.Building.{as_node}

-- these nodes over so many atoms in this order
abbrev pub list_over : ℕ → Option (List ℕ) → List Node → NodeList
list_over atoms order nodes = record { atoms = atoms; order = order; nodes = nodes }

-- the number of the line of the first node: behind that of an order, where one is listed, and that
-- of how many nodes there are
abbrev pub node_start : Option (List ℕ) → ℕ
node_start None = 2
node_start (Some order) = 3

-- what is known of a first line: an order is one, and a file has no more nodes than it may
abbrev pub IsBegun : ℕ → FirstLine → Type 0
IsBegun atoms (L.Listed order) = IsOrder (list_over atoms (Some order) [])
IsBegun atoms (L.Counted count) = count ≤ 16777216

-- the line is the one of a file with so many nodes
pub record IsHeader (line : List ℕ) (count : ℕ) : Type 0 where
  pub spelled : line ≡ header_line count
  pub short : count < 10 ^ 18

-- the line has three decimals, those of this node, be it a good one or not
pub record IsTriple (line : List ℕ) (node : Node) : Type 0 where
  pub spelled : line ≡ node_line node
  pub atom : node.atom < 10 ^ 18
  pub low : node.low < 10 ^ 18
  pub high : node.high < 10 ^ 18

-- the node of the numbers of a line
abbrev pub node_of : Option Triple → Option Node
node_of None = None
node_of (Some triple) = Some (as_node triple)

-- the same of what came of a line
abbrev pub as_nodes : Result Triple (ParseFault NodeRefusal) → Result Node (ParseFault NodeRefusal)
as_nodes (Ok triple) = Ok (as_node triple)
as_nodes (Err e) = Err e
