use Rattle.std.proofs.Common.{◌<◌, ◌∙◌, sym, ap, arith, subst}
use Rattle.std.specs.List.{All}
use Rattle.hv_sets.specs.Cost.{choices_of}
use Rattle.hv_clauses.specs.Working.Posed.{size_in, sizes}
use Rattle.hv_clauses.proofs.Choosing.{choices_none}
use Rattle.hv_clauses.proofs.choices.has_empty.Goals as goal

pub returns-then-count_of-eq0-clause-none : goal.returns-then-count_of-eq0-clause-none
returns-then-count_of-eq0-clause-none g c = λ _.
    let p = c.args.problem.now in
    ap (choices_of p.task (sizes p)) (sym c.negative-negative.ensures.list)
    ∙ choices_none p.task (sizes p) c.negative-negative.result.now c.loop-operand.operand-index _
    c.loop-operand-test.true (sym c.count_of.ensures ∙ c.if-count_of-eq0.true)

pub returns-clause-some : goal.returns-clause-some
returns-clause-some g c = λ _.
    subst (λ os. All (λ o. 0 < size_in c.args.problem.now o.which) os)
    c.negative-negative.ensures.list
    (λ k d less. let end = c.loop-operand-test.false in
    c.loop-operand.invariant k d (omega arith))
