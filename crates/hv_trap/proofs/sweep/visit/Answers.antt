use Rattle.std.proofs.Common.{◌∙◌, true, replicate, sym, ap, length, subst, arith}
use Rattle.std.proofs.lemmas.List.{length-replicate}
use Rattle.hv_task.specs.Strips.{atoms}
use Rattle.hv_trap.specs.Working.Trap.{EncloseTrap}
use Rattle.hv_trap.proofs.Enclosing.{enclose_below, few_below, few_over, filter_most}
use Rattle.hv_trap.proofs.Marked.{left_at_first}
use Rattle.hv_trap.proofs.Quickly.{pairs_count}
use Rattle.hv_trap.proofs.sweep.visit.Goals as goal

pub lacked-requires : goal.lacked-requires
lacked-requires c = few_over c.args.task.now c.action.result.now c.requires.few
    c.action.ensures.over

pub set-requires : goal.set-requires
set-requires c = few_below c.args.task.now c.args.clauses.now c.requires.few
    c.requires.clauses

pub mark_all-requires-clause-marks : goal.mark_all-requires-clause-marks
mark_all-requires-clause-marks c =
    let task = c.args.task.now in
    let clauses = c.args.clauses.now in
    let has = c.requires.clauses in
    let are = c.in_ok-short.ensures c.if-not-short.false (atoms task)
    (enclose_below task has.0 clauses has.1) in
    ap length c.in_ok-leave_all.ensures ∙ length-replicate c.len.result true ∙ c.len.ensures
    ∙ sym (pairs_count (atoms task) clauses c.set.new.self.pairs.items are)

pub left_of-requires : goal.left_of-requires
left_of-requires c =
    let task = c.args.task.now in
    let clauses = c.args.clauses.now in
    let has = c.requires.clauses in
    let are = c.in_ok-short.ensures c.if-not-short.false (atoms task)
    (enclose_below task has.0 clauses has.1) in
    (c.mark_all.ensures.left clauses has are (left_at_first task clauses
    c.leave_all.new.left.items
    (c.in_ok-leave_all.ensures ∙ ap (λ n. replicate n true) c.len.ensures) has)).count

pub returns-clause-enclose : goal.returns-clause-enclose
returns-clause-enclose c =
    let task = c.args.task.now in
    let clauses = c.args.clauses.now in
    let has = c.requires.clauses in
    let are = c.in_ok-short.ensures c.if-not-short.false (atoms task)
    (enclose_below task has.0 clauses has.1) in
    let left = c.mark_all.ensures.left clauses has are (left_at_first task clauses
    c.leave_all.new.left.items
    (c.in_ok-leave_all.ensures ∙ ap (λ n. replicate n true) c.len.ensures) has) in
    subst (EncloseTrap task) (sym (c.in_ok-kept.ensures left.stays left.marks)) left.enclose

pub returns-clause-shrinks : goal.returns-clause-shrinks
returns-clause-shrinks c =
    let task = c.args.task.now in
    let clauses = c.args.clauses.now in
    let has = c.requires.clauses in
    let are = c.in_ok-short.ensures c.if-not-short.false (atoms task)
    (enclose_below task has.0 clauses has.1) in
    let left = c.mark_all.ensures.left clauses has are (left_at_first task clauses
    c.leave_all.new.left.items
    (c.in_ok-leave_all.ensures ∙ ap (λ n. replicate n true) c.len.ensures) has) in
    let few = filter_most left.stays clauses in
    let same = ap length (c.in_ok-kept.ensures left.stays left.marks) in
    omega (arith, few, same)
