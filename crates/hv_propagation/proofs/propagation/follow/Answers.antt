use Rattle.std.proofs.Common.{◌≡◌, ◌≤◌, ◌∙◌, Option, Some, length, refl, subst, sym, arith}
use Rattle.std.specs.Prelude.{MatchOption}
use Rattle.hv_propagation.specs.declared.propagation.Bound.{Bound}
use Rattle.hv_propagation.specs.declared.propagation.Bound.TheVariants as Bounds
use Rattle.hv_propagation.proofs.Chasing.{followed_none, followed_then, longer}
use Rattle.hv_propagation.proofs.propagation.follow.Goals as goal

pub loop-place-init : goal.loop-place-init
loop-place-init g c = record {
  followed = followed_none (g.C.Constraint.admits c.args.constraint.now) c.args.marks.now;
  within = c.requires.from;
  left = c.requires.left;
  end = λ is. is;
  place = λ upto is. is;
}

pub past-requires-clause-over : goal.past-requires-clause-over
past-requires-clause-over g c = (length c.args.marks.now.roots, c.requires.over)

pub past-requires-clause-place : goal.past-requires-clause-place
past-requires-clause-place g c =
    let less = c.loop-place-test.true in
    let size = c.len.ensures.len in
    omega (arith, less, size)

pub returns-in_default-clause-followed : goal.returns-in_default-clause-followed
returns-in_default-clause-followed g c = c.loop-place.invariant.followed

pub returns-in_default-clause-left : goal.returns-in_default-clause-left
returns-in_default-clause-left g c =
    (c.loop-place.invariant.within, c.loop-place.invariant.left)

pub visit-requires-clause-over : goal.visit-requires-clause-over
visit-requires-clause-over g c =
    subst (λ roots. g.C.Constraint.is_over c.args.constraint.now (length roots))
    (sym c.loop-place.invariant.followed.roots) c.requires.over

pub visit-requires-clause-from : goal.visit-requires-clause-from
visit-requires-clause-from g c =
    let less = c.loop-place-test.true in
    let size = c.len.ensures.len in
    omega (arith, less, size)

pub visit-requires-clause-left : goal.visit-requires-clause-left
visit-requires-clause-left g c = c.loop-place.invariant.left

pub returns-then-not-visit-clause-followed : goal.returns-then-not-visit-clause-followed
returns-then-not-visit-clause-followed g c =
    let P = g.C.Constraint.admits c.args.constraint.now in
    followed_then P P _ _ _ _ (λ s size holds. holds) c.loop-place.invariant.followed
    c.if-not-visit.ensures.followed

pub loop-place-preserved : goal.loop-place-preserved
loop-place-preserved g c =
    let P = g.C.Constraint.admits c.args.constraint.now in
    let more = longer _ _ _ _ c.if-not-visit.ensures.followed in
    let less = c.loop-place-test.true in
    let size = c.len.ensures.len in
    record {
      followed = followed_then P P _ _ _ _ (λ s size holds. holds) c.loop-place.invariant.followed
          c.if-not-visit.ensures.followed;
      within = omega arith;
      left = c.if-not-visit.ensures.left refl;
      end = λ is.
          let same : Some c.in-Some.next ≡ Some Bounds.End = sym c.in-Some.is
          ∙ c.past.ensures.end (c.loop-place.invariant.end is) in
          cc;
      place = λ upto is.
          let before = c.loop-place.invariant.place upto is in
          subst (λ (past : Option Bound). MatchOption past (upto ≤ c.loop-place.place)
          (λ rest. rest ≡ c.loop-place.rest)) c.in-Some.is (c.past.ensures.place upto before)
          ∙ before;
    }

pub returns-clause-followed : goal.returns-clause-followed
returns-clause-followed g c = c.loop-place.invariant.followed

pub returns-clause-left : goal.returns-clause-left
returns-clause-left g c = (c.loop-place.invariant.within, c.loop-place.invariant.left)
