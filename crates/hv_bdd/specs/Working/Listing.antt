-- What the reader of node files does with nodes that it tests later.
use Rattle.std.specs.Prelude.{◌≡◌, ◌≤◌, ◌+◌, ◌⊎◌, ℕ, List, [], ◌∷◌, Result, Ok, Err, length, map}
use Rattle.hv_grammar.specs.Parsers.{Parser, refused}
use Rattle.hv_grammar.specs.declared.fault.ParseFault.{ParseFault}
use Rattle.hv_grammar.specs.declared.fault.ParseFault.TheVariants as P
use Rattle.hv_bdd.specs.declared.fault.NodeRefusal.{NodeRefusal}
use Rattle.hv_bdd.specs.declared.node_listing.NodeListing.{NodeListing}
use Rattle.hv_bdd.specs.declared.node.Node.{Node}
use Rattle.hv_bdd.specs.declared.numbers.Triple.{Triple}
use Rattle.hv_bdd.specs.NodeFile.{with_next}
use Rattle.hv_bdd.specs.Nodes.{NodeList}
use Rattle.hv_bdd.specs.Working.Building.{as_node}
use Rattle.hv_bdd.specs.Working.Chains.{IsChained}
use Rattle.hv_bdd.specs.Working.NodeText.{node_start}

-- a list of nodes, or the line of the first of them that is refused, and in which way
abbrev pub Tried : Type 0
Tried = Result NodeList (ℕ × NodeRefusal)

-- what came of a node, with the line where it is refused
abbrev pub at_node_line : ℕ → Result NodeList NodeRefusal → Tried
at_node_line line (Ok list) = Ok list
at_node_line line (Err b) = Err (line, b)

-- the number of the line of the next node
abbrev pub next_line_of : NodeList → ℕ
next_line_of list = length list.nodes + node_start list.order

-- the same with one node more
abbrev pub then_listed : Tried → Node → Tried
then_listed (Ok list) node = at_node_line (next_line_of list) (with_next list node)
then_listed (Err e) node = Err e

-- the same with these nodes more
abbrev pub tried : Tried → List Node → Tried
tried so_far [] = so_far
tried so_far (node ∷ nodes) = tried (then_listed so_far node) nodes

-- what comes of the lines that follow, behind nodes that were read
abbrev pub behind_tried : {A : Type 0} → Tried → (NodeList → Parser NodeRefusal A)
    → Parser NodeRefusal A
behind_tried (Ok list) rest n ps = rest list n ps
behind_tried (Err e) rest n ps = refused e.0 e.1

-- the nodes that were read
abbrev pub tried_by : NodeListing → Tried
tried_by r = tried (Ok r.list) (map as_node r.waiting.items)

-- how many they are
abbrev pub read_count : NodeListing → ℕ
read_count r = length r.list.nodes + length r.waiting.items

-- a listing between two lines: the nodes of the list are noted, and with those that wait they are
-- no more than a file may have
pub record IsListing (r : NodeListing) : Type 0 where
  pub seen : IsChained r.list.nodes r.seen
  pub few : read_count r ≤ 16777216

-- the fault is that of the nodes that were read; or out of memory
abbrev pub FailsTried : Tried → ParseFault NodeRefusal → Type 0
FailsTried so_far (P.Refused n b) = so_far ≡ Err (n, b)
FailsTried so_far (P.Long n) = ⊥
FailsTried so_far P.ReadFault = ⊥
FailsTried so_far P.Memory = Unit {0}

-- the nodes were listed, or one of them is refused
abbrev pub ListsAll : Result (Unit {0}) (ParseFault NodeRefusal) → NodeList → List Node → NodeList
    → Type 0
ListsAll (Ok _) old nodes new = tried (Ok old) nodes ≡ Ok new
ListsAll (Err e) old nodes new = FailsTried (tried (Ok old) nodes) e

-- the nodes that were read are the same ones
pub record KeepsNodes (old new : NodeListing) : Type 0 where
  pub ready : IsListing new
  pub same : tried_by new ≡ tried_by old
  pub size : read_count new ≡ read_count old
  pub atoms : new.list.atoms ≡ old.list.atoms
  pub order : new.list.order ≡ old.list.order

-- room was made for one more, or a node that was read is refused
abbrev pub MakesRoom : Result (Unit {0}) (ParseFault NodeRefusal) → NodeListing → NodeListing → Type
    0
MakesRoom (Ok _) old new = KeepsNodes old new
MakesRoom (Err e) old new = FailsTried (tried_by old) e

-- the nodes that waited were listed, or one of them is refused
abbrev pub Settles : Result (Unit {0}) (ParseFault NodeRefusal) → NodeListing → NodeListing → Type 0
Settles (Ok _) old new = KeepsNodes old new × (new.waiting.items ≡ [])
Settles (Err e) old new = FailsTried (tried_by old) e

-- one more node was taken
pub record TakesNode (old : NodeListing) (node : Node) (new : NodeListing) : Type 0 where
  pub ready : IsListing new
  pub more : tried_by new ≡ then_listed (tried_by old) node
  pub size : read_count new ≡ read_count old + 1
  pub atoms : new.list.atoms ≡ old.list.atoms
  pub order : new.list.order ≡ old.list.order

-- one more node was taken, or an earlier one is refused
abbrev pub PutsNode : Result (Unit {0}) (ParseFault NodeRefusal) → NodeListing → Triple →
    NodeListing
    → Type 0
PutsNode (Ok _) old triple new = TakesNode old (as_node triple) new
PutsNode (Err e) old triple new = FailsTried (tried_by old) e

-- the fault of a node that was read, or else this one
abbrev pub IsEarliest : NodeListing → ParseFault NodeRefusal → ParseFault NodeRefusal → Type 0
IsEarliest r fault result =
    FailsTried (tried_by r) result ⊎ ((list : NodeList) × (tried_by r ≡ Ok list) × (result ≡ fault))

-- the list of all nodes, or the fault of one of them
abbrev pub Finishes : Result NodeList (ParseFault NodeRefusal) → NodeListing → Type 0
Finishes (Ok list) r = tried_by r ≡ Ok list
Finishes (Err e) r = FailsTried (tried_by r) e
