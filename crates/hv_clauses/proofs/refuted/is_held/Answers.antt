use Rattle.std.proofs.Common.{◌≡◌, [], Some, not, arith, get_or, inl, inr, subst}
use Rattle.std.proofs.lemmas.Bool.{cases_lt}
use Rattle.std.proofs.lemmas.List.{get_or_default}
use Rattle.hv_sets.specs.declared.literal.Literal.{Literal}
use Rattle.hv_propagation.specs.Units.{value_of}
use Rattle.hv_clauses.proofs.refuted.is_held.Goals as goal

pub loop-literal-preserved : goal.loop-literal-preserved
loop-literal-preserved c =
    let i = c.loop-literal.literal-index in
    let clause = c.args.clause.now in
    let effect = c.args.effect.now in
    let turned = not c.args.after in
    record {
      held = λ k d less is. elim (cases_lt k i) [
        | inl old ↦ c.loop-literal.invariant.held k d old is
        | inr past ↦
            let here : k ≡ i = omega arith in
            c.is_made.ensures c.if-is_made.false
            (subst (λ (l : Literal). value_of effect [] l ≡ Some turned)
            (get_or_default clause i d _ c.loop-literal-test.true)
            (subst (λ j. value_of effect [] (get_or clause j d) ≡ Some turned) here is))
      ];
    }

pub returns : goal.returns
returns c = λ _ k d within is.
    c.loop-literal.invariant.held k d (let end = c.loop-literal-test.false in omega arith) is
