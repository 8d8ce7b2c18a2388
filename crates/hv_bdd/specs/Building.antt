-- Node lists that grow by one node after the other.
use Rattle.std.specs.Prelude.{◌&&◌, ℕ, Bool, Option, None, Some, cond, nat_eq, nat_lt}
use Rattle.std.specs.List.{list_any}
use Rattle.hv_bdd.specs.declared.node.Node.{Node}
use Rattle.hv_bdd.specs.declared.fault.NodeKind.{NodeKind}
use Rattle.hv_bdd.specs.declared.fault.NodeKind.TheVariants as N
use Rattle.hv_bdd.specs.Nodes.{NodeList, node_count}
use Rattle.hv_bdd.specs.Order.{place}
use Rattle.hv_bdd.specs.Reduced.{top}

-- whether the two nodes have the same atom and children
abbrev pub same_node : Node → Node → Bool
same_node a b = nat_eq a.atom b.atom && (nat_eq a.low b.low && nat_eq a.high b.high)

-- whether a child asks for a later atom than this one, or is an end
abbrev pub is_later : NodeList → ℕ → ℕ → Bool
is_later list atom child = nat_lt (place list atom) (top list child)

-- the first of the faults of a further node that can be seen from it alone, if it has one
abbrev pub plain_fault : NodeList → Node → Option NodeKind
plain_fault list node =
    cond (nat_lt node.atom list.atoms)
    (cond (nat_lt node.low (node_count list) && nat_lt node.high (node_count list))
    (cond (is_later list node.atom node.low && is_later list node.atom node.high)
    (cond (nat_eq node.low node.high) (Some N.SameChildren) None)
    (Some N.Order))
    (Some N.Child))
    (Some N.Atom)

-- without another fault, a node may be one that is listed
abbrev pub or_twin : NodeList → Node → Option NodeKind → Option NodeKind
or_twin list node None = cond (list_any (same_node node) list.nodes) (Some N.Twin) None
or_twin list node (Some fault) = Some fault

-- the first of the faults that a further node has, if it has one
abbrev pub fault_of : NodeList → Node → Option NodeKind
fault_of list node = or_twin list node (plain_fault list node)
