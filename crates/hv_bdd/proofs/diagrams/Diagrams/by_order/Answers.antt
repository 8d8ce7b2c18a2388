use Rattle.std.proofs.Common.{Some, subst, sym}
use Rattle.hv_bdd.specs.Reduced.{IsReduced}
use Rattle.hv_bdd.proofs.Built.{bare_reduced}
use Rattle.hv_bdd.proofs.diagrams.Diagrams.by_order.Goals as goal

pub invariant_of-result : goal.invariant_of-result
invariant_of-result c =
    subst (λ nodes. IsReduced (record {
      atoms = c.args.atoms;
      order = Some c.args.order;
      nodes = nodes;
    }))
    (sym c.new.ensures.items) (bare_reduced c.args.atoms (Some c.args.order) c.requires)
