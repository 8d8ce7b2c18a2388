-- Node files: which pieces of a file are the text of a list of nodes, and otherwise their first
-- fault.
use Rattle.std.specs.Prelude.{◌≡◌, ◌++◌, ℕ, List, [], ◌∷◌, Option, None, Some, Result, Ok, Err}
use Rattle.std.specs.Prelude.{codes, decimal, length, map}
use Rattle.hv_bytes.specs.declared.cutting.Limits.{Limits}
use Rattle.hv_bytes.specs.Pieces.{PieceBytes, as_pieces, pieces_of}
use Rattle.hv_bdd.specs.declared.fault.NodesFault.{NodesFault}
use Rattle.hv_bdd.specs.declared.fault.NodesFault.TheVariants as F
use Rattle.hv_bdd.specs.declared.node.Node.{Node}
use Rattle.hv_bdd.specs.NodeFile.{fault_in, node_file}
use Rattle.hv_bdd.specs.Nodes.{NodeList}
use Rattle.hv_bdd.specs.OrderLine.{order_line}
use Rattle.hv_bdd.specs.Reduced.{IsReduced}

-- the first lines of a file: where an order of the atoms is listed, its line
abbrev pub first_lines : Option (List ℕ) → List (List ℕ)
first_lines None = []
first_lines (Some order) = order_line order ∷ []

-- the line that says how many nodes follow
abbrev pub header_line : ℕ → List ℕ
header_line count = codes "nodes " ++ decimal count

-- the line of a node: its atom, its low and its high child, parted by one space
abbrev pub node_line : Node → List ℕ
node_line node = decimal node.atom ++ 32 ∷ (decimal node.low ++ 32 ∷ decimal node.high)

-- the lines of the text of a list of nodes
abbrev pub node_lines : NodeList → List (List ℕ)
node_lines list =
    first_lines list.order ++ header_line (length list.nodes) ∷ map node_line list.nodes

-- the pieces are the text of this list, which is reduced and ordered; so none of its lines is long
pub record IsNodeTextOf (pieces : List PieceBytes) (list : NodeList) : Type 0 where
  pub reduced : IsReduced list
  pub spelled : as_pieces (node_lines list) ≡ pieces

-- the same of a list over so many atoms
abbrev pub AreNodeTextOf : ℕ → List PieceBytes → NodeList → Type 0
AreNodeTextOf atoms pieces list = (list.atoms ≡ atoms) × IsNodeTextOf pieces list

-- the first fault of the pieces is this one
abbrev pub HasNodesFault : ℕ → List PieceBytes → NodesFault → Type 0
HasNodesFault atoms pieces fault = fault_in (node_file atoms 0 pieces) ≡ Some fault

-- what a reader answers to these bytes: the list where they are a text, and else the first fault;
-- faults of the device and running out of memory are free here
abbrev pub IsNodesReadFrom : Limits → ℕ → List ℕ → Result NodeList NodesFault → Type 0
IsNodesReadFrom limits atoms bytes (Ok list) = AreNodeTextOf atoms (pieces_of limits bytes) list
IsNodesReadFrom limits atoms bytes (Err (F.Place number kind)) =
    HasNodesFault atoms (pieces_of limits bytes) (F.Place number kind)
IsNodesReadFrom limits atoms bytes (Err (F.Limit number limit)) =
    HasNodesFault atoms (pieces_of limits bytes) (F.Limit number limit)
IsNodesReadFrom limits atoms bytes (Err F.ReadFault) = Unit {0}
IsNodesReadFrom limits atoms bytes (Err F.Memory) = Unit {0}
