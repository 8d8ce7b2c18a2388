use Rattle.std.proofs.Common.{◌∙◌, ◌+◌, arith, inl, inr, sym}
use Rattle.std.proofs.lemmas.Bool.{both_ways}
use Rattle.hv_explicit.proofs.Merging.{made_touched, next_touches, past_fails, past_run}
use Rattle.hv_explicit.proofs.Merging.{touched_passed}
use Rattle.hv_explicit.proofs.results.past.Goals as goal

pub returns-then-is_before : goal.returns-then-is_before
returns-then-is_before c = λ same.
    let r = c.requires in
    let run = c.alike-many.ensures in
    past_fails c.args.list.now c.args.held.now c.args.add.now c.args.del.now r.list r.held r.add
    r.del c.args.stand r.stand.0 r.stand.1 c.alike-many.result run.list run.held run.same
    c.args.atom r.next run.stop (inl (c.is_before.ensures.before c.if-is_before.true)) same

pub returns-then-is_before-2 : goal.returns-then-is_before-2
returns-then-is_before-2 c = λ same.
    let r = c.requires in
    let run = c.alike-many.ensures in
    past_fails c.args.list.now c.args.held.now c.args.add.now c.args.del.now r.list r.held r.add
    r.del c.args.stand r.stand.0 r.stand.1 c.alike-many.result run.list run.held run.same
    c.args.atom r.next run.stop (inr (c.is_before-2.ensures.before c.if-is_before-2.true)) same

pub stands-requires-clause-split : goal.stands-requires-clause-split
stands-requires-clause-split c =
    let r = c.requires in
    let run = c.alike-many.ensures in
    (past_run c.args.list.now c.args.held.now c.args.add.now c.args.del.now r.list r.held r.add
    r.del c.args.stand r.stand.0 r.stand.1 c.alike-many.result run.list run.held run.same
    c.args.atom r.next run.less (c.is_before.ensures.over c.if-is_before.false)
    (c.is_before-2.ensures.over c.if-is_before-2.false)).list_split

pub stands-requires-2-clause-split : goal.stands-requires-2-clause-split
stands-requires-2-clause-split c =
    let r = c.requires in
    let run = c.alike-many.ensures in
    (past_run c.args.list.now c.args.held.now c.args.add.now c.args.del.now r.list r.held r.add
    r.del c.args.stand r.stand.0 r.stand.1 c.alike-many.result run.list run.held run.same
    c.args.atom r.next run.less (c.is_before.ensures.over c.if-is_before.false)
    (c.is_before-2.ensures.over c.if-is_before-2.false)).add_split

pub behind-requires-clause-split : goal.behind-requires-clause-split
behind-requires-clause-split c =
    let r = c.requires in
    let run = c.alike-many.ensures in
    (past_run c.args.list.now c.args.held.now c.args.add.now c.args.del.now r.list r.held r.add
    r.del c.args.stand r.stand.0 r.stand.1 c.alike-many.result run.list run.held run.same
    c.args.atom r.next run.less (c.is_before.ensures.over c.if-is_before.false)
    (c.is_before-2.ensures.over c.if-is_before-2.false)).list_split

pub behind-requires-2-clause-split : goal.behind-requires-2-clause-split
behind-requires-2-clause-split c =
    let r = c.requires in
    let run = c.alike-many.ensures in
    (past_run c.args.list.now c.args.held.now c.args.add.now c.args.del.now r.list r.held r.add
    r.del c.args.stand r.stand.0 r.stand.1 c.alike-many.result run.list run.held run.same
    c.args.atom r.next run.less (c.is_before.ensures.over c.if-is_before.false)
    (c.is_before-2.ensures.over c.if-is_before-2.false)).held_split

pub behind-requires-3-clause-split : goal.behind-requires-3-clause-split
behind-requires-3-clause-split c =
    let r = c.requires in
    let run = c.alike-many.ensures in
    (past_run c.args.list.now c.args.held.now c.args.add.now c.args.del.now r.list r.held r.add
    r.del c.args.stand r.stand.0 r.stand.1 c.alike-many.result run.list run.held run.same
    c.args.atom r.next run.less (c.is_before.ensures.over c.if-is_before.false)
    (c.is_before-2.ensures.over c.if-is_before-2.false)).add_split

pub behind-requires-4-clause-split : goal.behind-requires-4-clause-split
behind-requires-4-clause-split c =
    let r = c.requires in
    let run = c.alike-many.ensures in
    (past_run c.args.list.now c.args.held.now c.args.add.now c.args.del.now r.list r.held r.add
    r.del c.args.stand r.stand.0 r.stand.1 c.alike-many.result run.list run.held run.same
    c.args.atom r.next run.less (c.is_before.ensures.over c.if-is_before.false)
    (c.is_before-2.ensures.over c.if-is_before-2.false)).del_split

pub returns-then-not-are_same : goal.returns-then-not-are_same
returns-then-not-are_same c = λ same.
    both_ways c.are_same.result c.if-not-are_same.true (c.are_same.ensures.1
    (c.stands.ensures ∙ sym (same c.args.atom)
    ∙ made_touched c.args.add.now c.args.del.now c.args.held.now c.args.atom
    (next_touches c.args.add.now c.args.del.now c.args.stand c.args.atom c.requires.next)
    ∙ sym c.stands-2.ensures))

pub returns : goal.returns
returns c =
    let r = c.requires in
    let s = c.args.stand in
    let run = c.alike-many.ensures in
    let many = c.alike-many.result in (
      (
        c.args.atom + 1,
        touched_passed c.args.list.now c.args.held.now c.args.add.now c.args.del.now r.list r.held
            r.add r.del (record {
              listed = s.listed + many;
              held = s.held + many;
              added = s.added;
              deleted = s.deleted;
            }) c.args.atom
            (past_run c.args.list.now c.args.held.now c.args.add.now c.args.del.now r.list r.held
            r.add r.del s r.stand.0 r.stand.1 many run.list run.held run.same c.args.atom r.next
            run.less (c.is_before.ensures.over c.if-is_before.false)
            (c.is_before-2.ensures.over c.if-is_before-2.false))
            (record {
              listed = c.behind.result;
              held = c.behind-2.result;
              added = c.behind-3.result;
              deleted = c.behind-4.result;
            })
            (next_touches c.args.add.now c.args.del.now s c.args.atom r.next)
            (sym c.stands.ensures ∙ c.are_same.ensures.0 c.if-not-are_same.false
            ∙ c.stands-2.ensures)
            c.behind.ensures.split c.behind-2.ensures.split c.behind-3.ensures.split
            c.behind-4.ensures.split,
      ),
      elim r.next.one [
        | inl here ↦
            let more = c.behind-3.ensures.more here.0 here.1 in
            let upto = c.behind-4.ensures.upto in omega arith
        | inr here ↦
            let more = c.behind-4.ensures.more here.0 here.1 in
            let upto = c.behind-3.ensures.upto in omega arith
      ],
    )
