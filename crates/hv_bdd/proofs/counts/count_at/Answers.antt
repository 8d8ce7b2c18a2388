use Rattle.std.proofs.Common.{ap, arith, get_or}
use Rattle.hv_bdd.specs.declared.node.Node.{Node}
use Rattle.hv_bdd.specs.Reduced.{node_at}
use Rattle.hv_bdd.proofs.Counted.{count_end, count_other}
use Rattle.hv_bdd.specs.Working.Laws.{count_inner}
use Rattle.hv_bdd.proofs.counts.count_at.Goals as goal

pub returns-then-node-end : goal.returns-then-node-end
returns-then-node-end c = count_end c.args.nodes.now c.args.end c.args.node c.args.cap
    c.if-node-lt2.true c.if-node-end.true

pub returns-else-node-end : goal.returns-else-node-end
returns-else-node-end c = count_other c.args.nodes.now c.args.end c.args.node c.args.cap
    c.if-node-lt2.true c.if-node-end.false

pub bounds-counts-listed-2 : goal.bounds-counts-listed-2
bounds-counts-listed-2 c =
    let high = c.node-listed.ensures.reduced.high c.args.node c.if-node-lt2.false c.requires.node in
    let is = ap (λ (n : Node). n.high) c.node-listed.ensures.node in
    let lesser = c.requires.lesser in omega arith

pub returns : goal.returns
returns c =
    let low = c.node-listed.ensures.reduced.low c.args.node c.if-node-lt2.false c.requires.node in
    let high = c.node-listed.ensures.reduced.high c.args.node c.if-node-lt2.false c.requires.node in
    let is_low = ap (λ (n : Node). n.low) c.node-listed.ensures.node in
    let is_high = ap (λ (n : Node). n.high) c.node-listed.ensures.node in
    let sum = count_inner c.args.nodes.now c.args.end c.node-listed.ensures.reduced c.args.node
    c.if-node-lt2.false c.requires.node in
    let lesser = c.requires.lesser in
    let count_low = c.requires.counts (node_at c.args.nodes.now c.args.node).low (omega arith) in
    let count_high = c.requires.counts (node_at c.args.nodes.now c.args.node).high (omega arith) in
    let low_is = ap (λ k. get_or c.args.counts.now k 0) is_low in
    let high_is = ap (λ k. get_or c.args.counts.now k 0) is_high in
    let is = c.min.ensures in omega arith
