use Rattle.std.proofs.Common.{arith}
use Rattle.hv_indexes.proofs.Mated.{under_more, under_tried}
use Rattle.hv_indexes.proofs.clusters.Clusters.are_true_under.Goals as goal

pub loop-at-preserved : goal.loop-at-preserved
loop-at-preserved c =
    under_more c.args.clauses.now c.args.self.now c.args.state.now c.args.held.now c.loop-at.at
    c.loop-at.invariant c.if-not-holds_under.ensures

pub returns : goal.returns
returns c =
    under_tried c.args.clauses.now c.args.self.now c.args.state.now c.args.held.now
    c.requires.state c.requires.below
    (λ k x less. c.loop-at.invariant k x (let end = c.loop-at-test.false in omega arith))
