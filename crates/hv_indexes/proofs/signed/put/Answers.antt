use Rattle.std.proofs.Common.{◌≡◌, ◌∙◌, false, sym, true}
use Rattle.hv_indexes.proofs.Scattered.{puts_none, puts_one}
use Rattle.hv_indexes.proofs.signed.put.Goals as goal

pub returns-in_ok-push-clause-negative : goal.returns-in_ok-push-clause-negative
returns-in_ok-push-clause-negative c =
    puts_none _ c.args.negative.now.items
    (λ x of. let is : true ≡ false = sym c.if-literal.true ∙ of.0 in cc)

pub returns-in_ok-push-clause-positive : goal.returns-in_ok-push-clause-positive
returns-in_ok-push-clause-positive c =
    puts_one _ c.if-literal.true c.args.positive.now.items _ c.code_of-code.result _
    c.in_ok-push.ensures.items c.code_of-code.ensures

pub returns-in_ok-push-2-clause-negative : goal.returns-in_ok-push-2-clause-negative
returns-in_ok-push-2-clause-negative c =
    puts_one _ c.if-literal.false c.args.negative.now.items _ c.code_of-code.result _
    c.in_ok-push-2.ensures.items c.code_of-code.ensures

pub returns-in_ok-push-2-clause-positive : goal.returns-in_ok-push-2-clause-positive
returns-in_ok-push-2-clause-positive c =
    puts_none _ c.args.positive.now.items
    (λ x of. let is : false ≡ true = sym c.if-literal.false ∙ of.0 in cc)
