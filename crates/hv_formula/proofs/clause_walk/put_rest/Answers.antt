use Rattle.std.proofs.Common.{◌∙◌, ◌++◌, ◌∷◌, [], ap₂}
use Rattle.hv_formula.proofs.Walked.{take_denied}
use Rattle.hv_formula.proofs.clause_walk.put_rest.Goals as goal

pub loop-place-preserved : goal.loop-place-preserved
loop-place-preserved c =
    c.in_ok-push.ensures.items
    ∙ (ap₂ (λ xs x. xs ++ x ∷ []) c.loop-place.invariant c.denial_at.ensures
    ∙ take_denied c.args.clause.now c.args.codes.now c.loop-place.place c.loop-place-test.true)
