use Rattle.std.proofs.Common.{◌≡◌, ◌<◌, ◌∙◌, arith, false, get_or, length, refl, sym}
use Rattle.std.proofs.lemmas.List.{get_or_default}
use Rattle.hv_basic.specs.Cases.{lines_in}
use Rattle.hv_basic.specs.Working.Flags.{flag_or_false}
use Rattle.hv_basic.proofs.Flagging.{all_flagged, flag_is, has_it, none_lower}
use Rattle.hv_basic.proofs.acts_verdicts.verdict_by_list.Goals as goal

pub returns-then-not-index : goal.returns-then-not-index
returns-then-not-index c =
    let task = c.args.case.now.task.now in
    let lines = lines_in c.args.case.now in
    let number = get_or c.args.listed.now c.loop-action.action-index 0 in
    let flags = c.args.seconds.now.flags.items in
    let count = c.actions-actions.ensures.actions in
    let each = c.requires.seconds.each in
    let below : number < length task.actions = omega (arith, c.if-action-actions.true, count) in
    let within : number < length flags = omega (arith, below, each) in
    let flag : flag_or_false flags number ≡ false =
    get_or_default flags number false c.index.result.now within
    ∙ (sym c.index.ensures ∙ c.if-not-index.true) in (
      number,
      refl,
      refl,
      (
        below,
        has_it task lines c.args.first c.args.second c.args.seconds.now c.requires.seconds
            c.args.listed.now c.requires.rises c.requires.lists
            c.loop-action.action-index number c.loop-action-test.true refl,
        sym (flag_is task lines c.args.first c.args.second c.args.seconds.now c.requires.seconds
            number below) ∙ flag,
      ),
      none_lower task lines c.args.first c.args.second c.args.seconds.now c.requires.seconds
          c.args.listed.now c.requires.rises c.requires.lists
          c.loop-action.action-index number c.loop-action.invariant c.loop-action-test.true refl,
    )

pub returns : goal.returns
returns c =
    all_flagged c.args.case.now.task.now (lines_in c.args.case.now) c.args.first c.args.second
    c.args.seconds.now c.requires.seconds c.args.listed.now
    c.requires.rises c.requires.lists c.loop-action.action-index c.loop-action-test.false
    c.loop-action.invariant
