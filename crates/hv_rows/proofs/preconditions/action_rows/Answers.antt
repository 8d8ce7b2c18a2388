use Rattle.std.proofs.Common.{◌∙◌, ap, arith, length, subst, sym}
use Rattle.std.proofs.lemmas.Option.{slice_get_within}
use Rattle.hv_task.specs.State.{AreBelow}
use Rattle.hv_task.specs.Strips.{atoms}
use Rattle.hv_rows.proofs.Entered.{entered_below, entered_has, entered_keeps}
use Rattle.hv_rows.proofs.Rowed.{below_more, place_of, place_within, rowed_more, rowed_test}
use Rattle.hv_rows.proofs.preconditions.action_rows.Goals as goal

pub loop-number-init : goal.loop-number-init
loop-number-init c = record {
  size = let e = c.in_ok-rows.ensures.size in let f = c.atoms-past.ensures.atoms in
      omega (arith, e, f);
  below = c.in_ok-rows.ensures.below (length c.args.task.now.actions);
  each = λ k a less is. absurd (omega (arith, less));
}

pub place_for-place-requires : goal.place_for-place-requires
place_for-place-requires c =
    let size = c.loop-number.invariant.size in
    let same = ap length c.deref.ensures.value in
    subst (AreBelow (length c.deref.result.now)) (sym c.as_slice.ensures.items)
    (below_more (atoms c.args.task.now) (length c.deref.result.now)
    c.action.result.now.pre (omega (arith, size, same)) c.action.ensures.over.pre)

pub enter-requires : goal.enter-requires
enter-requires c =
    let size = c.loop-number.invariant.size in
    let within = place_within c.action.result.now.pre (atoms c.args.task.now)
    c.place_for-place.result c.action.ensures.over.pre
    (place_of c.action.result.now.pre c.as_slice.result.now (atoms c.args.task.now) _
    c.place_for-place.result c.as_slice.ensures.items c.atoms-past.ensures.atoms
    c.place_for-place.ensures) in
    omega (arith, size, within)

pub loop-number-preserved : goal.loop-number-preserved
loop-number-preserved c =
    let i = c.loop-number.invariant in
    let a = c.action.result.now in
    let all = c.args.task.now.actions in
    let number = c.loop-number.number in
    let old = c.loop-number.rows.items in
    let new = c.enter.new.rows.items in
    let place = c.place_for-place.result in
    let e = c.in_ok-enter.ensures.entered in
    let key = place_of a.pre c.as_slice.result.now (atoms c.args.task.now) _
    c.place_for-place.result c.as_slice.ensures.items c.atoms-past.ensures.atoms
    c.place_for-place.ensures in
    record {
      size = c.enter.ensures.size ∙ i.size;
      below = entered_below place number old new e (length all)
          (slice_get_within all number a c.action.ensures.named) i.below;
      each = rowed_more (atoms c.args.task.now) old new all number a place c.action.ensures.named
          (entered_keeps place number old new e)
          (place_within a.pre (atoms c.args.task.now) place c.action.ensures.over.pre key) key
          (entered_has place number old new e) i.each;
    }

pub returns : goal.returns
returns c =
    let i = c.loop-number.invariant in
    record {
      size = i.size;
      below = i.below;
      each = λ k a is.
          let less = slice_get_within c.args.task.now.actions k a is in
          let w = i.each k a (omega (arith, less, c.loop-number-test.false)) is in
          rowed_test (atoms c.args.task.now) c.loop-number.rows.items a k i.size w.0 w.1 w.2 w.3;
    }
