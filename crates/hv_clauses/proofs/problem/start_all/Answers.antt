use Rattle.std.proofs.Common.{◌∙◌, true, false, length, refl, sym, ap, arith, subst}
use Rattle.hv_clauses.specs.Working.Posed.{InEach}
use Rattle.hv_clauses.specs.Working.Start.{IsBasedOn}
use Rattle.hv_propagation.proofs.Chasing.{followed_none, grown_by}
use Rattle.hv_clauses.proofs.Problems.{all_seen, operand_followed, operand_seen}
use Rattle.hv_clauses.proofs.problem.start_all.Goals as goal

pub loop-operand-init : goal.loop-operand-init
loop-operand-init g c = record {
  followed = followed_none (InEach c.args.problem.now) c.args.marks.now;
  seen = λ k less f. absurd (omega arith);
}

pub start_operand-requires-clause-size : goal.start_operand-requires-clause-size
start_operand-requires-clause-size g c =
    ap length c.loop-operand.invariant.followed.roots ∙ c.requires.size

pub start_operand-requires-clause-rooted : goal.start_operand-requires-clause-rooted
start_operand-requires-clause-rooted g c =
    subst (λ b. IsBasedOn c.args.problem.now c.args.rooted b)
    (sym c.loop-operand.invariant.followed.roots) c.requires.rooted

pub returns-then-not-start_operand-clause-followed :
    goal.returns-then-not-start_operand-clause-followed
returns-then-not-start_operand-clause-followed g c =
    operand_followed c.args.problem.now _ c.positive-positive.ensures.list
    c.loop-operand.operand-index _ c.loop-operand-test.true _ _ _ false
    c.loop-operand.invariant.followed c.if-not-start_operand.ensures.followed

pub loop-operand-preserved : goal.loop-operand-preserved
loop-operand-preserved g c =
    let p = c.args.problem.now in
    let list = c.positive-positive.ensures.list in
    let test = c.loop-operand-test.true in
    let step = c.if-not-start_operand.ensures.followed in
    record {
      followed = operand_followed p _ list c.loop-operand.operand-index _ test _ _ _ true
          c.loop-operand.invariant.followed step;
      seen = operand_seen p _ list c.loop-operand.operand-index _ test c.loop-operand.marks
          c.start_operand.new.marks 0 (grown_by _ _ _ _ step) (omega arith)
          c.loop-operand.invariant.seen (c.if-not-start_operand.ensures.left refl);
    }

pub returns-clause-left : goal.returns-clause-left
returns-clause-left g c = λ is.
    all_seen c.args.problem.now _ c.positive-positive.ensures.list c.loop-operand.marks 0
    (λ k less f. let end = c.loop-operand-test.false in
    c.loop-operand.invariant.seen k (omega arith) f)
