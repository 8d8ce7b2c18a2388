-- Node files, as the table of their format.
use Rattle.std.specs.Prelude.{◌++◌, ℕ, List, [], ◌∷◌, Option, None, Some, Result, Ok, Err, codes}
use Rattle.std.specs.Prelude.{cond}
use Rattle.hv_bytes.specs.Fields.{cut_fields}
use Rattle.hv_grammar.specs.Forms.{decimal_of, numbered_in, or_refused}
use Rattle.hv_grammar.specs.declared.fault.ParseFault.{ParseFault}
use Rattle.hv_grammar.specs.declared.fault.ParseFault.TheVariants as P
use Rattle.hv_grammar.specs.Parsers.{Outcome, Parser, check, end_of_input, iterate, line, long}
use Rattle.hv_grammar.specs.Parsers.{parsed, pure, refused, ◌>>=◌, ◌>>◌}
use Rattle.hv_bdd.specs.declared.fault.NodeKind.{NodeKind}
use Rattle.hv_bdd.specs.declared.fault.NodeKind.TheVariants as K
use Rattle.hv_bdd.specs.declared.fault.NodeLimit.TheVariants as W
use Rattle.hv_bdd.specs.declared.fault.NodeRefusal.{NodeRefusal}
use Rattle.hv_bdd.specs.declared.fault.NodeRefusal.TheVariants as R
use Rattle.hv_bdd.specs.declared.fault.NodesFault.{NodesFault}
use Rattle.hv_bdd.specs.declared.fault.NodesFault.TheVariants as F
use Rattle.hv_bdd.specs.declared.first.FirstLine.{FirstLine}
use Rattle.hv_bdd.specs.declared.first.FirstLine.TheVariants as L
use Rattle.hv_bdd.specs.declared.node.Node.{Node}
use Rattle.hv_bdd.specs.Building.{fault_of}
use Rattle.hv_bdd.specs.Nodes.{NodeList, no_nodes, no_nodes_by}
use Rattle.hv_bdd.specs.OrderLine.{begins_with, order_of_fields}

-- a node, where all three numbers are there
abbrev pub three_numbers : Option ℕ → Option ℕ → Option ℕ → Option Node
three_numbers None low high = None
three_numbers (Some atom) None high = None
three_numbers (Some atom) (Some low) None = None
three_numbers (Some atom) (Some low) (Some high) =
    Some (record { atom = atom; low = low; high = high })

-- the node of the fields of a line, where they are three decimals
abbrev pub node_of_fields : List (List ℕ) → Option Node
node_of_fields [] = None
node_of_fields (a ∷ []) = None
node_of_fields (a ∷ b ∷ []) = None
node_of_fields (a ∷ b ∷ c ∷ []) = three_numbers (decimal_of a) (decimal_of b) (decimal_of c)
node_of_fields (a ∷ b ∷ c ∷ d ∷ fields) = None

-- the node of a line, be it a good one or not
abbrev pub node_in : List ℕ → Result Node NodeRefusal
node_in bytes = or_refused (R.Place K.Node) (node_of_fields (cut_fields bytes))

-- the list with one node more, where it has no fault
abbrev pub or_fault : NodeList → Node → Option NodeKind → Result NodeList NodeRefusal
or_fault list node None =
    Ok (record { atoms = list.atoms; order = list.order; nodes = list.nodes ++ node ∷ [] })
or_fault list node (Some kind) = Err (R.Place kind)

-- the list with the next node of a file
abbrev pub with_next : NodeList → Node → Result NodeList NodeRefusal
with_next list node = or_fault list node (fault_of list node)

-- the line of one more node
abbrev pub next_node_line : NodeList → Parser NodeRefusal NodeList
next_node_line list = line (R.Place K.Node) node_in >>= check (with_next list)

-- how many nodes a line says, as `nodes 7`
abbrev pub count_in : List ℕ → Result ℕ NodeRefusal
count_in = numbered_in (codes "nodes ") 16777216 (R.Place K.Header) (R.Limit W.Nodes)

-- a first line that begins as that of an order
abbrev pub as_listed : Option (List ℕ) → Result FirstLine NodeRefusal
as_listed None = Err (R.Place K.Permutation)
as_listed (Some order) = Ok (L.Listed order)

-- a first line that doesn't
abbrev pub as_counted : Result ℕ NodeRefusal → Result FirstLine NodeRefusal
as_counted (Ok count) = Ok (L.Counted count)
as_counted (Err bad) = Err bad

-- what the first line says
abbrev pub first_in : ℕ → List ℕ → Result FirstLine NodeRefusal
first_in atoms bytes =
    cond (begins_with (codes "order") bytes) (as_listed (order_of_fields atoms (cut_fields bytes)))
    (as_counted (count_in bytes))

-- the line that says how many nodes follow
abbrev pub header : Parser NodeRefusal ℕ
header = line (R.Place K.Header) count_in

-- so many nodes
abbrev pub so_many : NodeList → ℕ → Parser NodeRefusal NodeList
so_many list count = iterate count next_node_line list

-- what is behind an order, by which this list has no nodes yet: how many follow, and they
abbrev pub behind_order : NodeList → Parser NodeRefusal NodeList
behind_order list = header >>= so_many list

-- what is behind the first line
abbrev pub behind_first : ℕ → FirstLine → Parser NodeRefusal NodeList
behind_first atoms (L.Listed order) = behind_order (no_nodes_by atoms order)
behind_first atoms (L.Counted count) = so_many (no_nodes atoms) count

-- a node file over so many atoms
abbrev pub node_file : ℕ → Parser NodeRefusal NodeList
node_file atoms = do
  first ← line (R.Place K.Header) (first_in atoms)
  list ← behind_first atoms first
  end_of_input (R.Place K.End)
  pure list

-- the fault of a line of this number that is refused
abbrev pub node_fault_at : ℕ → NodeRefusal → NodesFault
node_fault_at number (R.Place kind) = F.Place number kind
node_fault_at number (R.Limit limit) = F.Limit number limit

-- the fault that comes of a file, if one does
abbrev pub fault_in : Outcome NodeRefusal NodeList → Option NodesFault
fault_in (parsed list n ps) = None
fault_in (refused n b) = Some (node_fault_at n b)
fault_in (long n) = Some (F.Limit n W.Long)

-- the fault of a node file, by what its reader says
abbrev pub nodes_fault : ParseFault NodeRefusal → NodesFault
nodes_fault (P.Refused number refusal) = node_fault_at number refusal
nodes_fault (P.Long number) = F.Limit number W.Long
nodes_fault P.ReadFault = F.ReadFault
nodes_fault P.Memory = F.Memory
