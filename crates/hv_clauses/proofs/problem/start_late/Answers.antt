use Rattle.std.proofs.Common.{◌∙◌, true, false, length, refl, ap, arith}
use Rattle.hv_clauses.specs.Working.Posed.{InEach}
use Rattle.hv_propagation.proofs.Chasing.{followed_none, grown_by, longer}
use Rattle.hv_clauses.proofs.EarlyParts.{early_grown, operand_early}
use Rattle.hv_clauses.proofs.Problems.{all_seen, operand_followed, operand_seen}
use Rattle.hv_clauses.proofs.problem.start_late.Goals as goal

pub loop-operand-init : goal.loop-operand-init
loop-operand-init g c = record {
  followed = followed_none (InEach c.args.problem.now) c.args.marks.now;
  seen = λ from h early k less f. absurd (omega arith);
}

pub start_if_late-requires-clause-size : goal.start_if_late-requires-clause-size
start_if_late-requires-clause-size g c =
    ap length c.loop-operand.invariant.followed.roots ∙ c.requires.size

pub returns-then-not-start_if_late-clause-followed :
    goal.returns-then-not-start_if_late-clause-followed
returns-then-not-start_if_late-clause-followed g c =
    operand_followed c.args.problem.now _ c.positive-positive.ensures.list
    c.loop-operand.operand-index _ c.loop-operand-test.true _ _ _ false
    c.loop-operand.invariant.followed c.if-not-start_if_late.ensures.followed

pub loop-operand-preserved : goal.loop-operand-preserved
loop-operand-preserved g c =
    let p = c.args.problem.now in
    let list = c.positive-positive.ensures.list in
    let test = c.loop-operand-test.true in
    let first = c.loop-operand.invariant.followed in
    let step = c.if-not-start_if_late.ensures.followed in
    let more = longer _ _ _ _ first in
    record {
      followed = operand_followed p _ list c.loop-operand.operand-index _ test _ _ _ true
          first step;
      seen = λ from h early.
          operand_seen p _ list c.loop-operand.operand-index _ test c.loop-operand.marks
          c.start_if_late.new.marks from (grown_by _ _ _ _ step) (omega arith)
          (c.loop-operand.invariant.seen from h early)
          (c.if-not-start_if_late.ensures.left refl from (omega arith)
          (operand_early p _ list c.loop-operand.operand-index _ test c.loop-operand.marks from
          (early_grown p c.args.marks.now c.loop-operand.marks from (grown_by _ _ _ _ first) h
          early)));
    }

pub returns-clause-left : goal.returns-clause-left
returns-clause-left g c = λ is from h early.
    all_seen c.args.problem.now _ c.positive-positive.ensures.list c.loop-operand.marks from
    (λ k less f. let end = c.loop-operand-test.false in
    c.loop-operand.invariant.seen from h early k (omega arith) f)
