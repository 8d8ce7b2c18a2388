use Rattle.std.proofs.Common.{◌≡◌, ◌∙◌, arith, false, subst, sym}
use Rattle.std.specs.List.{Contains}
use Rattle.hv_reach.proofs.Served.{followed_served, given_served, lack_below, lack_ready}
use Rattle.hv_reach.proofs.Served.{row_pair, row_size, served_ready, told_step}
use Rattle.hv_reach.specs.declared.pair_course.ActionStanding.TheVariants as S
use Rattle.hv_reach.specs.Working.Course.{StandsSo}
use Rattle.hv_reach.proofs.pair_visit.visit.Goals as goal

pub enter-requires-clause-lack : goal.enter-requires-clause-lack
enter-requires-clause-lack c =
    rw c.as_slice.ensures.items at c.next_lack-lack.ensures

pub index-requires : goal.index-requires
index-requires c =
    let found = rw c.in-Lacks.is at c.requires.stands in
    let below = (lack_below c.args.atoms _ c.args.action.now.pre c.in-Lacks.old
    c.requires.over.pre found).0 in
    let size = c.requires.table.size in omega arith

pub has-requires : goal.has-requires
has-requires c =
    let found = rw c.in-Lacks.is at c.requires.stands in
    let below = lack_below c.args.atoms _ c.args.action.now.pre c.in-Lacks.old
    c.requires.over.pre found in
    let second = below.1 in
    let size = row_size c.args.atoms c.args.rows.now.items c.index.result.now
    c.in-Lacks.old.first c.requires.table below.0 c.index.ensures in omega arith

pub returns-then-not-has-clause-ready : goal.returns-then-not-has-clause-ready
returns-then-not-has-clause-ready c =
    let found = rw c.in-Lacks.is at c.requires.stands in
    let below = lack_below c.args.atoms _ c.args.action.now.pre c.in-Lacks.old
    c.requires.over.pre found in
    lack_ready c.args.atoms c.args.rows.now.items c.args.flags.now c.args.action.now c.in-Lacks.old
    found (row_pair c.args.atoms c.args.rows.now.items c.index.result.now
    c.in-Lacks.old.first c.in-Lacks.old.second false c.requires.table below.0
    c.index.ensures (sym c.has.ensures ∙ c.if-not-has.true))

pub returns-then-not-has-clause-stands : goal.returns-then-not-has-clause-stands
returns-then-not-has-clause-stands c = λ s at.
    let found = rw c.in-Lacks.is at c.requires.stands in
    let same : S.Lacks c.in-Lacks.old ≡ s = let e = sym c.requires.standing ∙ at in cc in
    subst (StandsSo (λ q. ⊥) c.args.course.now.told.items c.args.rows.now.items c.args.action.now)
    same found

pub next_lack-lack-requires-in-Lacks-clause-before
    : goal.next_lack-lack-requires-in-Lacks-clause-before
next_lack-lack-requires-in-Lacks-clause-before c =
    let found = rw c.in-Lacks.is at c.requires.stands in
    rw c.as_slice-in-Lacks.ensures.items found.before

pub enter-requires-in-Lacks-clause-lack : goal.enter-requires-in-Lacks-clause-lack
enter-requires-in-Lacks-clause-lack c =
    rw c.as_slice-in-Lacks.ensures.items at c.next_lack-lack-in-Lacks.ensures

pub give-requires-clause-pre : goal.give-requires-clause-pre
give-requires-clause-pre c = (rw c.in-Ready.is at c.requires.stands).1.pre

pub follow-requires-clause-glance : goal.follow-requires-clause-glance
follow-requires-clause-glance c = (rw c.in-Ready.is at c.requires.stands).0

pub follow-requires-clause-pre : goal.follow-requires-clause-pre
follow-requires-clause-pre c = (rw c.in-Ready.is at c.requires.stands).1.pre

pub follow-requires-clause-add : goal.follow-requires-clause-add
follow-requires-clause-add c = (rw c.in-Ready.is at c.requires.stands).1.add

pub returns-then-course-clause-stands : goal.returns-then-course-clause-stands
returns-then-course-clause-stands c = λ s at.
    let found = rw c.in-Ready.is at c.requires.stands in
    let e = c.give.ensures in
    let same : S.Ready c.in-Ready.glance ≡ s = let e = sym c.requires.standing ∙ at in cc in
    subst (StandsSo (λ q. ⊥) c.args.course.now.told.items c.give.new.rows.items c.args.action.now)
    same (
      found.0,
      given_served c.args.atoms c.args.course.now.told.items c.args.rows.now.items
          c.give.new.rows.items c.args.action.now c.requires.table c.requires.told.within
          (let less = found.0.0.1 in omega arith) e.step.grows found.1.pre e.add e.other,
    )

pub returns-else-course-clause-stands : goal.returns-else-course-clause-stands
returns-else-course-clause-stands c = λ s at.
    let found = rw c.in-Ready.is at c.requires.stands in
    let e = c.follow.ensures in
    let told = c.args.course.now.told.items in
    let same : S.Ready c.in-Ready.glance ≡ s = let e = sym c.requires.standing ∙ at in cc in
    subst (StandsSo (λ q. ⊥) told c.follow.new.rows.items c.args.action.now) same (
      found.0,
      followed_served told c.args.rows.now.items c.follow.new.rows.items c.args.action.now
          c.args.course.now.news c.requires.told.within e.step.grows c.if-course.false found.1
          e.done,
    )

pub returns-else-course-clause-ready : goal.returns-else-course-clause-ready
returns-else-course-clause-ready c =
    let found = rw c.in-Ready.is at c.requires.stands in
    let e = c.follow.ensures in
    let told = c.args.course.now.told.items in
    let a = c.args.action.now in
    served_ready c.args.atoms c.follow.new.rows.items c.follow.new.flags told a
    (told_step c.args.atoms (Contains a.pre) c.args.rows.now.items c.follow.new.rows.items
    c.args.flags.now c.follow.new.flags c.follow.result told e.step c.requires.told)
    (followed_served told c.args.rows.now.items c.follow.new.rows.items a
    c.args.course.now.news c.requires.told.within e.step.grows c.if-course.false found.1 e.done)
