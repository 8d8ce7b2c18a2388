use Rattle.std.proofs.Common.{◌∙◌, ap, sym, true}
use Rattle.hv_bdd.specs.Nodes.{in_node}
use Rattle.hv_bdd.proofs.Advanced.{turned_same}
use Rattle.hv_bdd.proofs.level.turned.Goals as goal

pub returns-then-node-literal-clause-same : goal.returns-then-node-literal-clause-same
returns-then-node-literal-clause-same c = λ s is.
    turned_same c.args.nodes.now true c.node.ensures.reduced c.args.node c.args.literal s
    c.if-node-ge2.true c.requires (ap (λ n. n.atom) (sym c.node.ensures.node)
    ∙ c.if-node-literal.true) is
    ∙ ap (λ z. in_node c.args.nodes.now z s) (sym c.child.ensures.child)
