use Rattle.std.proofs.Common.{◌≡◌, false, get_or}
use Rattle.std.proofs.lemmas.Bool.{both_ways}
use Rattle.hv_task.specs.State.{names_atom}
use Rattle.hv_task.proofs.Next.{kept_next, kept_none, unnamed}
use Rattle.hv_task.proofs.after.next_kept.Goals as goal

pub returns-then-not-has : goal.returns-then-not-has
returns-then-not-has c =
    let none : names_atom c.args.others.now (get_or c.args.list.now c.loop-place.place 0) ≡ false =
    unnamed c.args.others.now (get_or c.args.list.now c.loop-place.place 0)
    (λ has. both_ways c.has.result c.if-not-has.true (c.has.ensures.1 has)) in
    kept_next c.args.others.now c.args.list.now c.args.from c.loop-place.place c.requires
    c.loop-place.invariant c.loop-place-test.true
    (c.place_from-place.ensures.after c.loop-place.place c.loop-place.auto.place
    c.loop-place-test.true) none

pub returns : goal.returns
returns c =
    kept_none c.args.others.now c.args.list.now c.args.from c.loop-place.place c.requires
    c.loop-place.invariant c.loop-place-test.false
