use Rattle.std.proofs.Common.{inl, inr, subst}
use Rattle.std.specs.List.{Contains}
use Rattle.hv_lines.proofs.Elements.{got_in}
use Rattle.hv_basic.proofs.rights.put_against.Goals as goal

pub loop-place-preserved : goal.loop-place-preserved
loop-place-preserved c = λ literal has.
    elim (c.in_ok-put_opposite.ensures literal has) [
      | inl was ↦ c.loop-place.invariant literal was
      | inr same ↦ inr (subst (Contains c.args.clauses.now) same
          (got_in c.args.clauses.now c.loop-place.place c.get.result.now c.get.ensures))
    ]
