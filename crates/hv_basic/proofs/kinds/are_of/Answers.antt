use Rattle.std.proofs.Common.{IsTrue, false, [], arith, below_more, get_or, refl, subst, sym}
use Rattle.std.proofs.lemmas.List.{get_or_default}
use Rattle.hv_basic.proofs.Membership.{at_place}
use Rattle.hv_basic.proofs.kinds.are_of.Goals as goal

no : {P : Type 0} → IsTrue false → P
no is = absurd cc

pub returns-then-not-is_of : goal.returns-then-not-is_of
returns-then-not-is_of g c = (
  λ is. no is,
  λ all.
      c.if-not-is_of.ensures.1
      (subst g.K.ClauseKind.is_of (sym (at_place c.args.clauses.now c.loop-place.place []
      c.get.result.now c.get.ensures)) (all c.loop-place.place []
      (omega (arith, c.loop-place-test.true, c.len-place-end.ensures)))),
)

pub loop-place-preserved : goal.loop-place-preserved
loop-place-preserved g c =
    below_more (λ k. g.K.ClauseKind.is_of (get_or c.args.clauses.now k [])) c.loop-place.place
    c.loop-place.invariant
    (subst g.K.ClauseKind.is_of (at_place c.args.clauses.now c.loop-place.place [] c.get.result.now
    c.get.ensures) (c.if-not-is_of.ensures.0 refl))

pub returns : goal.returns
returns g c = (
  λ _ k d within.
      subst g.K.ClauseKind.is_of (get_or_default c.args.clauses.now k [] d within)
      (c.loop-place.invariant k (omega (
        arith,
        within,
        c.loop-place-test.false,
        c.len-place-end.ensures,
      ))),
  λ _. refl,
)
