use Rattle.std.proofs.Common.{◌∙◌, ◌++◌, ◌∷◌, [], ap, ap₂, append_assoc, map, sym, take, true}
use Rattle.std.proofs.Common.{false}
use Rattle.std.proofs.lemmas.List.{take_all}
use Rattle.hv_bdd.specs.Live.{asked_of}
use Rattle.hv_bdd.specs.Working.Search.{active}
use Rattle.hv_bdd.proofs.Idle.{active_both, active_more}
use Rattle.hv_bdd.proofs.node_queries.active_operands.Goals as goal

pub loop-operand-preserved : goal.loop-operand-preserved
loop-operand-preserved c =
    let os = c.as_slice-operand-items.result.now in
    let i = c.loop-operand.operand-index in
    c.in_ok-put_active.ensures
    ∙ (ap (λ xs. xs ++ active (c.asked_of.result ∷ [])) c.loop-operand.invariant
    ∙ (ap (λ o. active (map (asked_of true) (take i os)) ++ active (o ∷ [])) c.asked_of.ensures
    ∙ sym (active_more true os i _ c.loop-operand-test.true)))

pub loop-operand-2-preserved : goal.loop-operand-2-preserved
loop-operand-2-preserved c =
    let os = c.as_slice-operand-items-2.result.now in
    let i = c.loop-operand-2.operand-index in
    let before = c.loop-operand.asked.items in
    let one = c.asked_of-in-loop-operand-2.result in
    c.in_ok-put_active-2.ensures
    ∙ (ap (λ xs. xs ++ active (one ∷ [])) c.loop-operand-2.invariant
    ∙ (append_assoc before (active (map (asked_of false) (take i os))) (active (one ∷ []))
    ∙ ap (λ xs. before ++ xs)
    (ap (λ o. active (map (asked_of false) (take i os)) ++ active (o ∷ []))
    c.asked_of-in-loop-operand-2.ensures
    ∙ sym (active_more false os i _ c.loop-operand-2-test.true))))

pub returns : goal.returns
returns c =
    let query = c.args.query.now in
    c.loop-operand-2.invariant
    ∙ (ap₂ (λ xs ys. xs ++ active (map (asked_of false) ys))
    (c.loop-operand.invariant
    ∙ ap (λ xs. active (map (asked_of true) xs))
    (take_all c.loop-operand.operand-index c.as_slice-operand-items.result.now
    c.loop-operand-test.false
    ∙ c.as_slice-operand-items.ensures))
    (take_all c.loop-operand-2.operand-index c.as_slice-operand-items-2.result.now
    c.loop-operand-2-test.false
    ∙ c.as_slice-operand-items-2.ensures)
    ∙ sym (active_both (map (asked_of true) query.positive)
    (map (asked_of false) query.negative)))
