use Rattle.std.proofs.Common.{◌≡◌, ◌<◌, None, length, sym, subst}
use Rattle.hv_bdd.specs.Building.{fault_of}
use Rattle.hv_bdd.specs.Nodes.{NodeList}
use Rattle.hv_bdd.specs.Reduced.{IsReduced}
use Rattle.hv_bdd.proofs.Built.{passes_from, reduced_more}
use Rattle.hv_bdd.proofs.diagrams.Diagrams.push.Goals as goal

pub invariant_of-self-2 : goal.invariant_of-self-2
invariant_of-self-2 c =
    let list : NodeList = record {
      atoms = c.self.inside.atoms;
      order = c.self.inside.order;
      nodes = c.self.inside.nodes.items;
    } in
    subst (λ nodes. IsReduced (record {
      atoms = c.self.inside.atoms;
      order = c.self.inside.order;
      nodes = nodes;
    }))
    (sym c.in_ok-push.ensures.items)
    (reduced_more list c.args.node c.self.invariant
    (passes_from list c.args.node (subst (λ (l : NodeList). fault_of l c.args.node ≡ None)
    (sym c.self.view_is) c.requires.good))
    (subst (λ (l : NodeList). length l.nodes < 16777216) (sym c.self.view_is) c.requires.few))
