use Rattle.std.proofs.Common.{arith}
use Rattle.hv_formula.proofs.FirstTried.{atoms_more, atoms_tried}
use Rattle.hv_formula.proofs.first_states.are_true_under.Goals as goal

pub loop-at-preserved : goal.loop-at-preserved
loop-at-preserved c =
    atoms_more c.args.bare.now.clauses.now c.args.state.now c.args.held.now c.loop-at.at
    c.loop-at.invariant c.if-not-are_true_with.ensures

pub returns : goal.returns
returns c =
    atoms_tried c.args.bare.now.clauses.now c.args.state.now c.args.held.now c.loop-at.at
    (let end = c.loop-at-test.false in omega arith) c.loop-at.invariant
