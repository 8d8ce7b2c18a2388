use Rattle.std.proofs.Common.{◌≡◌, ◌∙◌, ap, subst, sym}
use Rattle.hv_task.specs.State.{state_of}
use Rattle.hv_task.specs.Strips.{atoms}
use Rattle.hv_lines.specs.Pruning.{IsDeadBy}
use Rattle.hv_lines.proofs.Extended.{extends_then}
use Rattle.hv_replay.proofs.Replaying.{progress_more}
use Rattle.hv_replay.proofs.Several.{AnyOf, covered_none, covered_some, found_some}
use Rattle.hv_replay.proofs.Unions.{union_extended}
use Rattle.hv_replay.proofs.log_proof.put_state.Goals as goal

pub push_pruned-requires-clause-union : goal.push_pruned-requires-clause-union
push_pruned-requires-clause-union g c = (
  c.requires.union.0,
  union_extended c.args.task.now c.args.writing.now.draft.lines c.ask.new.draft.lines
      c.ask.ensures.extends c.requires.union.0 c.args.writing.now.union c.requires.union.1,
)

pub returns-in-None-clause-uncovered : goal.returns-in-None-clause-uncovered
returns-in-None-clause-uncovered g c =
    let at : c.hold.new.self ≡ state_of (atoms c.args.task.now) c.args.held.now =
    c.hold.ensures.held ∙ ap (λ n. state_of n c.args.held.now) c.requires.state in
    λ _ any.
    covered_none c.in_ok-ask.field-0
    (AnyOf c.args.pruners.now (λ b. (goal.Pruner-dyn g (b.vtable, b.value)).covers b.value
    c.args.task.now c.hold.new.self)) c.in-None.is
    c.in_ok-ask.ensures.covered
    (subst (λ s. AnyOf c.args.pruners.now (λ b. (goal.Pruner-dyn g (b.vtable, b.value)).covers
    b.value c.args.task.now s)) (sym at) any)

pub returns-in_ok-more-in-Some-clause-covered : goal.returns-in_ok-more-in-Some-clause-covered
returns-in_ok-more-in-Some-clause-covered g c =
    let at : c.hold.new.self ≡ state_of (atoms c.args.task.now) c.args.held.now =
    c.hold.ensures.held ∙ ap (λ n. state_of n c.args.held.now) c.requires.state in
    λ _.
    subst (λ s. AnyOf c.args.pruners.now (λ b. (goal.Pruner-dyn g (b.vtable, b.value)).covers
    b.value c.args.task.now s)) at
    (covered_some c.in_ok-ask.field-0 c.in-Some.by
    (AnyOf c.args.pruners.now (λ b. (goal.Pruner-dyn g (b.vtable, b.value)).covers b.value
    c.args.task.now c.hold.new.self)) c.in-Some.is
    c.in_ok-ask.ensures.covered)

pub returns-in_ok-more-in-Some-clause-progress : goal.returns-in_ok-more-in-Some-clause-progress
returns-in_ok-more-in-Some-clause-progress g c =
    let task = c.args.task.now in
    let held = c.args.held.now in
    let more = c.in_ok-more-in-Some.more in
    let at : c.hold.new.self ≡ state_of (atoms task) held =
    c.hold.ensures.held ∙ ap (λ n. state_of n held) c.requires.state in
    let dead : IsDeadBy task c.ask.new.draft.lines (state_of (atoms task) held) c.in-Some.by =
    subst (λ s. IsDeadBy task c.ask.new.draft.lines s c.in-Some.by) at
    (found_some c.in_ok-ask.field-0 c.in-Some.by
    (λ line. IsDeadBy task c.ask.new.draft.lines c.hold.new.self line) c.in-Some.is
    c.in_ok-ask.ensures.dead) in
    λ _ states before.
    progress_more task c.args.writing.now.draft.lines c.ask.new.draft.lines
    c.push_pruned.new.draft.lines held c.in-Some.by c.args.writing.now.union more
    c.ask.ensures.extends dead c.in_ok-more-in-Some.ensures.lines
    c.in_ok-more-in-Some.ensures.number c.push_pruned.ensures.extends
    c.in_ok-more-in-Some.ensures.union c.in_ok-more-in-Some.ensures.inside
    c.in_ok-more-in-Some.ensures.keeps states before

pub returns-in_ok-more-in-Some-clause-fits : goal.returns-in_ok-more-in-Some-clause-fits
returns-in_ok-more-in-Some-clause-fits g c = λ lines extends.
    c.ask.ensures.fits lines
    (extends_then c.args.task.now c.ask.new.draft.lines c.push_pruned.new.draft.lines lines
    c.push_pruned.ensures.extends extends)
