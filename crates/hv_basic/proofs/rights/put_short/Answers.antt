use Rattle.std.proofs.Common.{inl, inr, subst}
use Rattle.std.proofs.lemmas.List.Elements.{Contains-get_or}
use Rattle.std.specs.List.{Contains}
use Rattle.hv_basic.proofs.rights.put_short.Goals as goal

pub loop-literal-preserved : goal.loop-literal-preserved
loop-literal-preserved c = λ literal has.
    elim (c.in_ok-put_literal.ensures literal has) [
      | inl was ↦ c.loop-literal.invariant literal was
      | inr same ↦ inr (subst (Contains c.args.clause.now) same
          (Contains-get_or c.args.clause.now c.loop-literal.literal-index _
          c.loop-literal-test.true))
    ]
