use Rattle.std.proofs.Common.{◌<◌, ◌%◌, subst, sym}
use Rattle.hv_clauses.specs.Working.Posed.{formulas}
use Rattle.hv_clauses.proofs.Deciding.{digit_below, some_here}
use Rattle.hv_clauses.proofs.RefutedChoices.{refuted_by}
use Rattle.hv_clauses.proofs.OperandRounds.{digit_is, rest_is}
use Rattle.hv_clauses.proofs.refuted.is_refuted.Goals as goal

pub nonzero_rem-rest : goal.nonzero_rem-rest
nonzero_rem-rest g c =
    let p = c.args.problem.now in
    subst (λ n. 0 < n) (sym c.count_of-count.ensures)
    (some_here p c.args.number c.requires _ c.negative-negative.ensures.list
    c.loop-operand.operand-index _ c.loop-operand-test.true)

pub is_clause_true-requires : goal.is_clause_true-requires
is_clause_true-requires g c =
    let p = c.args.problem.now in
    digit_below c.loop-operand.rest _ _ c.count_of-count.ensures
    (some_here p c.args.number c.requires _ c.negative-negative.ensures.list
    c.loop-operand.operand-index _ c.loop-operand-test.true)

pub nonzero_div-rest : goal.nonzero_div-rest
nonzero_div-rest g c =
    let p = c.args.problem.now in
    subst (λ n. 0 < n) (sym c.count_of-count.ensures)
    (some_here p c.args.number c.requires _ c.negative-negative.ensures.list
    c.loop-operand.operand-index _ c.loop-operand-test.true)

pub returns-then-is_clause_true : goal.returns-then-is_clause_true
returns-then-is_clause_true g c = λ e state size agrees inside breaks.
    let p = c.args.problem.now in
    let place = c.loop-operand.operand-index in
    c.is_clause_true.ensures c.if-is_clause_true.true state size agrees inside
    (refuted_by p.task (formulas p) p.effect c.negative-negative.result.now p.query.negative place _
    c.args.number (c.loop-operand.rest % c.count_of-count.result) state
    c.negative-negative.ensures.list c.loop-operand-test.true
    (digit_is p.task (formulas p) c.negative-negative.result.now place _ c.args.number _ _
    c.loop-operand.invariant.rest c.count_of-count.ensures) breaks)

pub loop-operand-preserved : goal.loop-operand-preserved
loop-operand-preserved g c =
    let p = c.args.problem.now in
    record {
      rest = rest_is p.task (formulas p) c.negative-negative.result.now
          c.loop-operand.operand-index _ c.args.number _ _ c.loop-operand.invariant.rest
          c.count_of-count.ensures c.loop-operand-test.true;
    }
