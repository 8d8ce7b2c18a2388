use Rattle.std.proofs.Common.{◌≡◌, ◌<◌, ◌+◌, ◌*◌, ◌∙◌, ℕ, List, Option, None, ap₂, arith, get_or}
use Rattle.std.proofs.Common.{length, refl, subst, sym, take}
use Rattle.std.specs.List.{All}
use Rattle.std.specs.Option.{MatchOption}
use Rattle.hv_task.specs.Strips.{Strips}
use Rattle.hv_sets.specs.declared.operand.Operand.{Operand}
use Rattle.hv_sets.specs.Cost.{choices_of, clauses_of}
use Rattle.hv_clauses.proofs.Choosing.{choices_more, choices_upto}
use Rattle.hv_clauses.specs.Working.Posed.{choices, size_in, sizes}
use Rattle.hv_clauses.proofs.choices.cost_within.Goals as goal

-- without a result the budget is passed
none_over : (result : Option ℕ) (Over : Type 0) (P : ℕ → Type 0) → result ≡ None → Over
    → MatchOption result Over P
none_over result Over P e over = subst (λ r. MatchOption r Over P) (sym e) over

-- one factor more
product_more : (task : Strips) (sizes : ℕ → ℕ) (operands : List Operand) (place : ℕ) (d : Operand)
    (old count new : ℕ)
    → place < length operands
    → old ≡ choices_of task sizes (take place operands)
    → count ≡ clauses_of task sizes (get_or operands place d).which
    → new ≡ old * count → new ≡ choices_of task sizes (take (place + 1) operands)
product_more task sizes operands place d old count new within first here product =
    product ∙ (ap₂ (λ a b. a * b) first here
    ∙ sym (choices_more task sizes operands place d within))

-- a product that is too large for the budget
product_over : (task : Strips) (sizes : ℕ → ℕ) (operands : List Operand) (place : ℕ) (d : Operand)
    (old count budget : ℕ)
    → place < length operands
    → All (λ o. 0 < clauses_of task sizes o.which) operands
    → old ≡ choices_of task sizes (take place operands)
    → count ≡ clauses_of task sizes (get_or operands place d).which
    → budget < old * count → budget < choices_of task sizes operands
product_over task sizes operands place d old count budget within some first here over =
    let same = product_more task sizes operands place d old count (old * count) within first here
    refl in
    let upto = choices_upto task sizes operands (place + 1) some in
    omega (arith, same, upto, over)

pub returns-then-has_empty : goal.returns-then-has_empty
returns-then-has_empty g c =
    let p = c.args.problem.now in
    let none : 0 ≡ choices p = sym (c.if-has_empty.ensures.none refl) in
    (none, omega arith)

pub returns-in_err-cost : goal.returns-in_err-cost
returns-in_err-cost g c =
    let p = c.args.problem.now in
    none_over c.from_residual.result _ _ c.from_residual.ensures
    (subst (λ os. c.args.budget < choices_of p.task (sizes p) os) c.negative-negative.ensures.list
    (product_over p.task (sizes p) c.negative-negative.result.now c.loop-operand.operand-index _
    c.loop-operand.cost c.count_of.result c.args.budget c.loop-operand-test.true
    (subst (λ os. All (λ o. 0 < size_in p o.which) os) (sym c.negative-negative.ensures.list)
    (c.if-has_empty.ensures.some refl)) c.loop-operand.invariant c.count_of.ensures
    c.in_err-cost.ensures))

pub loop-operand-preserved : goal.loop-operand-preserved
loop-operand-preserved g c =
    let p = c.args.problem.now in
    product_more p.task (sizes p) c.negative-negative.result.now c.loop-operand.operand-index _
    c.loop-operand.cost c.count_of.result c.in_ok-cost.cost c.loop-operand-test.true
    c.loop-operand.invariant c.count_of.ensures c.in_ok-cost.ensures.0
