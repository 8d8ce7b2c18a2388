use Rattle.std.proofs.Common.{◌<◌, sym, subst}
use Rattle.hv_bdd.specs.declared.node.Node.{Node}
use Rattle.hv_bdd.proofs.diagrams.Diagrams.child.Goals as goal

pub returns-then-bit-clause-less : goal.returns-then-bit-clause-less
returns-then-bit-clause-less c =
    subst (λ (n : Node). n.high < c.args.node) (sym c.node-listed.ensures.node)
    (c.node-listed.ensures.reduced.high c.args.node c.requires.inner c.requires.node)

pub returns-else-bit-clause-less : goal.returns-else-bit-clause-less
returns-else-bit-clause-less c =
    subst (λ (n : Node). n.low < c.args.node) (sym c.node-listed.ensures.node)
    (c.node-listed.ensures.reduced.low c.args.node c.requires.inner c.requires.node)
