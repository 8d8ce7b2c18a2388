use Rattle.std.proofs.Common.{◌≡◌, ◌+◌, subst, sym}
use Rattle.hv_lines.specs.Drafts.{conclusion, onto}
use Rattle.hv_lines.specs.Judged.{Concludes}
use Rattle.hv_lines.specs.Pruning.{BeginsAsDraft, Extends}
use Rattle.hv_lines.proofs.Drafting.{concludes}
use Rattle.hv_lines.proofs.Extended.{extends_by}
use Rattle.hv_lines.proofs.Outcomes.{put_good, put_is}
use Rattle.hv_replay.specs.ClosingLines.{closing_block, closing_lines}
use Rattle.hv_replay.proofs.Putting.{IsNextOf, next_of, put_block, put_closing}
use Rattle.hv_replay.proofs.closing.push_closing.Goals as goal

pub push_all-requires-clause-good : goal.push_all-requires-clause-good
push_all-requires-clause-good c =
    let old = c.args.draft.now.lines in
    let is_next = next_of old c.reserve.new.self.lines c.table.result.now.lines
    c.next_in-next.result c.reserve.new.self.spare
    c.table.ensures.lines c.in_ok-reserve.ensures.lines c.in_ok-reserve.ensures.few
    c.next_in-next.ensures.set c.next_in-next.ensures.line in
    let begins : BeginsAsDraft old = subst BeginsAsDraft c.in_ok-reserve.ensures.lines
    c.table.ensures.begins in
    put_good c.args.task.now (closing_block c.next_in-next.result.set c.next_in-next.result.line
    c.args.states c.args.union) old c.in_ok-block.block.items c.reserve.new.self.lines
    c.in_ok-block.ensures c.in_ok-reserve.ensures.lines
    (put_block c.args.task.now c.requires.task old c.requires.draft begins
    c.next_in-next.result is_next c.args.states c.args.union
    c.requires.union.0 c.requires.union.1 c.requires.union.2 c.requires.short c.requires.closed)

pub push_all-requires-2-clause-good : goal.push_all-requires-2-clause-good
push_all-requires-2-clause-good c =
    let old = c.args.draft.now.lines in
    let is_next = next_of old c.reserve.new.self.lines c.table.result.now.lines
    c.next_in-next.result c.reserve.new.self.spare
    c.table.ensures.lines c.in_ok-reserve.ensures.lines c.in_ok-reserve.ensures.few
    c.next_in-next.ensures.set c.next_in-next.ensures.line in
    let begins : BeginsAsDraft old = subst BeginsAsDraft c.in_ok-reserve.ensures.lines
    c.table.ensures.begins in
    let block = closing_block c.next_in-next.result.set c.next_in-next.result.line c.args.states
    c.args.union in
    put_good c.args.task.now (conclusion (c.next_in-next.result.line + 5)
    (c.next_in-next.result.set + 2) (c.next_in-next.result.line + 4)) (onto block old)
    c.in_ok-end.end.items c.push_all.new.self.lines c.in_ok-end.ensures
    (put_is block old c.in_ok-block.block.items c.reserve.new.self.lines c.push_all.new.self.lines
    c.in_ok-block.ensures c.in_ok-reserve.ensures.lines c.push_all.ensures.lines)
    (put_closing c.args.task.now c.requires.task old c.requires.draft begins
    c.next_in-next.result is_next c.args.states c.args.union
    c.requires.union.0 c.requires.union.1 c.requires.union.2 c.requires.short c.requires.closed)

-- the lines of the draft at the end
last : (c : goal.After-push_all-2) → c.push_all-2.new.self.lines
    ≡ onto (conclusion (c.next_in-next.result.line + 5) (c.next_in-next.result.set + 2)
    (c.next_in-next.result.line + 4)) (onto
    (closing_block c.next_in-next.result.set c.next_in-next.result.line c.args.states
    c.args.union) c.args.draft.now.lines)
last c =
    let old = c.args.draft.now.lines in
    let block = closing_block c.next_in-next.result.set c.next_in-next.result.line c.args.states
    c.args.union in
    put_is (conclusion (c.next_in-next.result.line + 5) (c.next_in-next.result.set + 2)
    (c.next_in-next.result.line + 4)) (onto block old) c.in_ok-end.end.items
    c.push_all.new.self.lines c.push_all-2.new.self.lines c.in_ok-end.ensures
    (put_is block old c.in_ok-block.block.items c.reserve.new.self.lines c.push_all.new.self.lines
    c.in_ok-block.ensures c.in_ok-reserve.ensures.lines c.push_all.ensures.lines)
    c.push_all-2.ensures.lines

pub returns-clause-extends : goal.returns-clause-extends
returns-clause-extends c =
    let old = c.args.draft.now.lines in
    let is_next : IsNextOf old c.next_in-next.result = next_of old c.reserve.new.self.lines
    c.table.result.now.lines c.next_in-next.result c.reserve.new.self.spare
    c.table.ensures.lines c.in_ok-reserve.ensures.lines c.in_ok-reserve.ensures.few
    c.next_in-next.ensures.set c.next_in-next.ensures.line in
    let begins : BeginsAsDraft old = subst BeginsAsDraft c.in_ok-reserve.ensures.lines
    c.table.ensures.begins in
    subst (Extends c.args.task.now old) (sym (last c))
    (extends_by c.args.task.now (closing_lines c.next_in-next.result.set c.next_in-next.result.line
    c.args.states c.args.union) old
    (put_closing c.args.task.now c.requires.task old c.requires.draft begins
    c.next_in-next.result is_next c.args.states
    c.args.union c.requires.union.0 c.requires.union.1 c.requires.union.2 c.requires.short
    c.requires.closed))

pub returns-clause-concludes : goal.returns-clause-concludes
returns-clause-concludes c =
    subst Concludes (sym (last c))
    (concludes c.args.task.now (onto (closing_block c.next_in-next.result.set
    c.next_in-next.result.line c.args.states c.args.union) c.args.draft.now.lines)
    (c.next_in-next.result.line + 5) (c.next_in-next.result.set + 2)
    (c.next_in-next.result.line + 4))
