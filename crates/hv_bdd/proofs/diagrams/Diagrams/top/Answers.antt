use Rattle.std.proofs.Common.{◌<◌, arith, subst, sym}
use Rattle.hv_bdd.specs.declared.node.Node.{Node}
use Rattle.hv_bdd.proofs.diagrams.Diagrams.top.Goals as goal

pub place-requires : goal.place-requires
place-requires c =
    subst (λ (n : Node). n.atom < c.args.self.now.atoms) (sym c.node.ensures.node)
    (c.atoms-atoms.ensures.reduced.atom c.args.node (omega arith) c.requires)
