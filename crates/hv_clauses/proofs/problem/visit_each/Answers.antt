use Rattle.std.proofs.Common.{◌∙◌, ◌+◌, true, false, length, refl, ap, arith}
use Rattle.hv_clauses.specs.Working.Posed.{InEach}
use Rattle.hv_propagation.proofs.Chasing.{followed_none, grown_by, longer}
use Rattle.hv_clauses.proofs.Problems.{all_seen, operand_followed, operand_left}
use Rattle.hv_clauses.specs.Working.Laws.{all_stay}
use Rattle.hv_clauses.proofs.Problems.{operand_seen}
use Rattle.hv_clauses.proofs.problem.visit_each.Goals as goal

pub loop-operand-init : goal.loop-operand-init
loop-operand-init g c = record {
  followed = followed_none (InEach c.args.problem.now) c.args.marks.now;
  left = c.requires.left;
  seen = λ k less f. absurd (omega arith);
}

pub visit_operand-requires-clause-size : goal.visit_operand-requires-clause-size
visit_operand-requires-clause-size g c =
    ap length c.loop-operand.invariant.followed.roots ∙ c.requires.size

pub visit_operand-requires-clause-from : goal.visit_operand-requires-clause-from
visit_operand-requires-clause-from g c =
    let more = longer _ _ _ _ c.loop-operand.invariant.followed in
    let less = c.requires.from in omega arith

pub visit_operand-requires-clause-left : goal.visit_operand-requires-clause-left
visit_operand-requires-clause-left g c =
    operand_left c.args.problem.now _ c.positive-positive.ensures.list
    c.loop-operand.operand-index _ c.loop-operand-test.true c.loop-operand.marks c.args.from
    c.loop-operand.invariant.left

pub returns-then-not-visit_operand-clause-followed :
    goal.returns-then-not-visit_operand-clause-followed
returns-then-not-visit_operand-clause-followed g c =
    operand_followed c.args.problem.now _ c.positive-positive.ensures.list
    c.loop-operand.operand-index _ c.loop-operand-test.true _ _ _ false
    c.loop-operand.invariant.followed c.if-not-visit_operand.ensures.followed

pub loop-operand-preserved : goal.loop-operand-preserved
loop-operand-preserved g c =
    let p = c.args.problem.now in
    let list = c.positive-positive.ensures.list in
    let test = c.loop-operand-test.true in
    let step = c.if-not-visit_operand.ensures.followed in
    let grown = grown_by _ _ _ _ step in
    let more = longer _ _ _ _ c.loop-operand.invariant.followed in
    let less = c.requires.from in
    record {
      followed = operand_followed p _ list c.loop-operand.operand-index _ test _ _ _ true
          c.loop-operand.invariant.followed step;
      left = all_stay p c.loop-operand.marks c.visit_operand.new.marks c.args.from grown
          (omega arith) c.loop-operand.invariant.left;
      seen = operand_seen p _ list c.loop-operand.operand-index _ test c.loop-operand.marks
          c.visit_operand.new.marks (c.args.from + 1) grown (omega arith)
          c.loop-operand.invariant.seen (c.if-not-visit_operand.ensures.left refl);
    }

pub returns-clause-left : goal.returns-clause-left
returns-clause-left g c = λ is.
    all_seen c.args.problem.now _ c.positive-positive.ensures.list c.loop-operand.marks
    (c.args.from + 1)
    (λ k less f. let end = c.loop-operand-test.false in
    c.loop-operand.invariant.seen k (omega arith) f)
