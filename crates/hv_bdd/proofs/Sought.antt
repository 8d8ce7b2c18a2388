-- What a search along a chain says of the list, and a node more.
use Rattle.std.proofs.Common.{◌≡◌, ◌∙◌, ◌&&◌, Bool, true, false, List, eqb, refl, sym, ap, arith}
use Rattle.std.proofs.lemmas.Bool.{and_from, and_parts, eq-eqb, eqb-true}
use Rattle.std.proofs.lemmas.List.{get_or_default}
use Rattle.std.proofs.lemmas.List.Folds.{Any-from_list_any, list_any_at}
use Rattle.std.specs.List.{list_any}
use Rattle.hv_bdd.specs.Building.{same_node}
use Rattle.hv_bdd.specs.Working.Chains.{listed_at}
use Rattle.hv_bdd.specs.Working.Chains.{AreAllBelow, IsListedNode}
use Rattle.hv_bdd.specs.declared.node.Node.{Node}
use Rattle.hv_bdd.proofs.Tripled.{same_node as node_by_parts}

-- the test says of a node that it is itself
itself : (node : Node) → same_node node node ≡ true
itself node =
    and_from (eqb node.atom node.atom) (eqb node.low node.low && eqb node.high node.high)
    (eq-eqb node.atom node.atom refl)
    (and_from (eqb node.low node.low) (eqb node.high node.high)
    (eq-eqb node.low node.low refl) (eq-eqb node.high node.high refl))

one_node : (n x : Node) → same_node n x ≡ true → n ≡ x
one_node n x e =
    let atom = and_parts (eqb n.atom x.atom) (eqb n.low x.low && eqb n.high x.high) e in
    let children = and_parts (eqb n.low x.low) (eqb n.high x.high) atom.1 in
    node_by_parts n x (eqb-true n.atom x.atom atom.0) (eqb-true n.low x.low children.0)
    (eqb-true n.high x.high children.1)

-- what was found is whether one of the nodes is this one
pub any_listed : (nodes : List Node) (node : Node) (found : Bool)
    → (found ≡ true → IsListedNode nodes node) → (found ≡ false → AreAllBelow nodes node 0)
    → found ≡ list_any (same_node node) nodes
any_listed nodes node true listed absent =
    let is = listed refl in
    let test : same_node node (listed_at nodes is.0) ≡ true =
    ap (λ x. same_node node x) is.2 ∙ itself node in
    sym (list_any_at (same_node node) nodes is.0 (record { atom = 0; low = 0; high = 0 }) is.1 test)
any_listed nodes node false listed absent = by (list_any (same_node node) nodes) refl
  where
    by : (t : Bool) → list_any (same_node node) nodes ≡ t → false ≡ t
    by false e = refl
    by true e =
        let found = Any-from_list_any (same_node node) nodes e in
        let d : Node = record { atom = 0; low = 0; high = 0 } in
        let there : listed_at nodes found.0 ≡ node =
        get_or_default nodes found.0 d found.1 found.2
        ∙ (found.3 ∙ sym (one_node node found.1 found.4)) in
        absurd (let none = absent refl found.0 found.2 there in omega arith)
