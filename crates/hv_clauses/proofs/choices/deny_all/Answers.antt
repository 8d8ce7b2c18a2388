use Rattle.std.proofs.Common.{◌<◌, ◌%◌, ◌∙◌, false, ap, length, subst, sym}
use Rattle.hv_clauses.specs.Working.Posed.{formulas}
use Rattle.hv_propagation.specs.Trail.{marks_of}
use Rattle.hv_clauses.proofs.Deciding.{digit_below, some_here}
use Rattle.hv_clauses.proofs.OperandRounds.{AreDenied, deny_broken, deny_more, digit_is, rest_is}
use Rattle.hv_propagation.proofs.Chasing.{grows_then}
use Rattle.hv_clauses.proofs.choices.deny_all.Goals as goal

pub nonzero_rem-rest : goal.nonzero_rem-rest
nonzero_rem-rest g c =
    let p = c.args.problem.now in
    subst (λ n. 0 < n) (sym c.count_of-count.ensures)
    (some_here p c.args.number c.requires.number _ c.negative-negative.ensures.list
    c.loop-operand.operand-index _ c.loop-operand-test.true)

pub deny_clause-requires-clause-place : goal.deny_clause-requires-clause-place
deny_clause-requires-clause-place g c =
    let p = c.args.problem.now in
    digit_below c.loop-operand.rest _ _ c.count_of-count.ensures
    (some_here p c.args.number c.requires.number _ c.negative-negative.ensures.list
    c.loop-operand.operand-index _ c.loop-operand-test.true)

pub nonzero_div-rest : goal.nonzero_div-rest
nonzero_div-rest g c =
    let p = c.args.problem.now in
    subst (λ n. 0 < n) (sym c.count_of-count.ensures)
    (some_here p c.args.number c.requires.number _ c.negative-negative.ensures.list
    c.loop-operand.operand-index _ c.loop-operand-test.true)

pub returns-then-not-deny_clause-clause-denied : goal.returns-then-not-deny_clause-clause-denied
returns-then-not-deny_clause-clause-denied g c =
    let p = c.args.problem.now in
    let place = c.loop-operand.operand-index in
    subst (λ os. AreDenied p.task (formulas p) p.effect os c.args.number
    (marks_of c.args.marks.now) (marks_of c.deny_clause.new.marks) false)
    c.negative-negative.ensures.list
    (deny_broken p.task (formulas p) p.effect c.negative-negative.result.now place _ c.args.number
    c.loop-operand-test.true _ _ _ (c.loop-operand.rest % c.count_of-count.result)
    (digit_is p.task (formulas p) c.negative-negative.result.now place _ c.args.number _ _
    c.loop-operand.invariant.rest c.count_of-count.ensures) c.loop-operand.invariant.denied
    c.if-not-deny_clause.ensures.denied)

pub loop-operand-preserved : goal.loop-operand-preserved
loop-operand-preserved g c =
    let p = c.args.problem.now in
    let place = c.loop-operand.operand-index in
    record {
      rest = rest_is p.task (formulas p) c.negative-negative.result.now place _ c.args.number _ _
          c.loop-operand.invariant.rest c.count_of-count.ensures c.loop-operand-test.true;
      denied = deny_more p.task (formulas p) p.effect c.negative-negative.result.now place _
          c.args.number c.loop-operand-test.true _ _ _ _
          (c.loop-operand.rest % c.count_of-count.result)
          (digit_is p.task (formulas p) c.negative-negative.result.now place _ c.args.number _ _
          c.loop-operand.invariant.rest c.count_of-count.ensures) c.loop-operand.invariant.denied
          c.if-not-deny_clause.ensures.denied;
      grown = grows_then _ _ _ c.loop-operand.invariant.grown c.if-not-deny_clause.ensures.grown;
    }

pub returns-then-not-deny_clause-clause-grown : goal.returns-then-not-deny_clause-clause-grown
returns-then-not-deny_clause-clause-grown g c = grows_then _ _ _ c.loop-operand.invariant.grown
    c.if-not-deny_clause.ensures.grown

pub deny_clause-requires-clause-size : goal.deny_clause-requires-clause-size
deny_clause-requires-clause-size g c =
    ap length c.loop-operand.invariant.grown.roots ∙ c.requires.size

pub returns-clause-grown : goal.returns-clause-grown
returns-clause-grown g c = c.loop-operand.invariant.grown
