use Rattle.std.proofs.Common.{◌∙◌, length-set, refl, subst, sym}
use Rattle.hv_reach.proofs.Served.{given_served, got_here, got_other, lack_ready, stands_entered}
use Rattle.hv_reach.specs.declared.pair_course.ActionStanding.TheVariants as S
use Rattle.hv_reach.specs.Working.Course.{StandsSo}
use Rattle.hv_reach.proofs.pair_visit.enter.Goals as goal

pub returns-in-Some-clause-ready : goal.returns-in-Some-clause-ready
returns-in-Some-clause-ready c =
    let found = rw c.in-Some.is at c.requires.lack in
    lack_ready c.args.atoms c.args.rows.now.items c.args.flags.now c.args.action.now
    c.in-Some.lack found.0 found.1

pub returns-in-Some-clause-kept : goal.returns-in-Some-clause-kept
returns-in-Some-clause-kept c =
    let standing = c.args.course.now.standing.items in
    record {
      told = refl;
      news = refl;
      seen = refl;
      mask = refl;
      count = length-set standing c.args.number (S.Lacks c.in-Some.lack);
      others = λ k other. got_other standing c.args.number k (S.Lacks c.in-Some.lack) other;
    }

pub returns-in-Some-clause-stands : goal.returns-in-Some-clause-stands
returns-in-Some-clause-stands c = λ s at.
    let found = rw c.in-Some.is at c.requires.lack in
    subst (StandsSo (λ q. ⊥) c.args.course.now.told.items c.args.rows.now.items c.args.action.now)
    (got_here c.args.course.now.standing.items c.args.number (S.Lacks c.in-Some.lack) s at) found.0

pub returns-in-None-clause-kept : goal.returns-in-None-clause-kept
returns-in-None-clause-kept c =
    let standing = c.args.course.now.standing.items in
    let size = c.requires.mask in
    record {
      told = refl;
      news = refl;
      seen = refl;
      mask = c.give-moved.ensures.mask ∙ sym size;
      count = length-set standing c.args.number c.lacking_none.result;
      others = λ k other. got_other standing c.args.number k c.lacking_none.result other;
    }

pub returns-in-None-clause-stands : goal.returns-in-None-clause-stands
returns-in-None-clause-stands c = λ s at.
    let a = c.args.action.now in
    let told = c.args.course.now.told.items in
    let e = c.give-moved.ensures in
    let new = c.give-moved.new.rows.items in
    let pairs = rw c.in-None.is at c.requires.lack in
    subst (StandsSo (λ q. ⊥) told new a)
    (got_here c.args.course.now.standing.items c.args.number c.lacking_none.result s at)
    (stands_entered told new a c.lacking_none.result
    (rw c.as_slice.ensures.items at c.lacking_none.ensures.glance)
    c.lacking_none.ensures.none
    (λ some. given_served c.args.atoms told c.args.rows.now.items new a
    c.requires.table c.requires.told some e.step.grows pairs e.add e.other))
