use Rattle.std.proofs.Common.{◌≡◌, ◌<◌, ◌≤◌, ◌∙◌, None, arith, get_or, length, refl}
use Rattle.hv_lines.proofs.Extended.{extends_then}
use Rattle.hv_replay.proofs.Alike.{alike_next, alike_same, any_alike}
use Rattle.hv_replay.proofs.Several.{all_set, any_at, covered_none, covered_some, found_none}
use Rattle.hv_replay.proofs.Several.{none_any, none_set}
use Rattle.hv_replay.proofs.boxes.ask.Goals as goal

pub loop-pruner-init : goal.loop-pruner-init
loop-pruner-init g c = record {
  draft = refl;
  covers = alike_same c.args.pruners.now (λ b. (goal.Pruner-dyn g (b.vtable, b.value)).covers
      b.value);
  none = λ k d from upto. absurd (omega (arith, upto));
  fits = c.requires.fits;
}

pub returns-in_err-line-clause-covers : goal.returns-in_err-line-clause-covers
returns-in_err-line-clause-covers g c =
    let within : c.loop-pruner.pruner-index < length c.loop-pruner.pruners = omega arith in
    alike_next c.loop-pruner.pruners c.args.pruners.now c.loop-pruner.pruner-index
    c.pruner-item.result c.ask_one.new.pruner
    (λ b. (goal.Pruner-dyn g (b.vtable, b.value)).covers b.value) within c.ask_one.ensures.covers
    c.loop-pruner.invariant.covers

pub returns-in-Some-clause-covers : goal.returns-in-Some-clause-covers
returns-in-Some-clause-covers g c =
    let within : c.loop-pruner.pruner-index < length c.loop-pruner.pruners = omega arith in
    alike_next c.loop-pruner.pruners c.args.pruners.now c.loop-pruner.pruner-index
    c.pruner-item.result c.ask_one.new.pruner
    (λ b. (goal.Pruner-dyn g (b.vtable, b.value)).covers b.value) within c.ask_one.ensures.covers
    c.loop-pruner.invariant.covers

pub returns-in-Some-clause-covered : goal.returns-in-Some-clause-covered
returns-in-Some-clause-covered g c =
    let within : c.loop-pruner.pruner-index < length c.loop-pruner.pruners = omega arith in
    (any_alike c.loop-pruner.pruners (λ b. (goal.Pruner-dyn g (b.vtable, b.value)).covers b.value)
    c.args.pruners.now
    c.loop-pruner.invariant.covers c.args.task.now c.args.state.now).0
    (any_at c.loop-pruner.pruners c.loop-pruner.pruner-index c.pruner-item.result
    (λ b. (goal.Pruner-dyn g (b.vtable, b.value)).covers b.value c.args.task.now c.args.state.now)
    within
    (covered_some c.in_ok-line.field-0 c.in-Some.line
    ((goal.Pruner-dyn g (
      (get_or c.loop-pruner.pruners c.loop-pruner.pruner-index
          c.pruner-item.result).vtable,
      (get_or c.loop-pruner.pruners c.loop-pruner.pruner-index
          c.pruner-item.result).value,
    )).covers
    (get_or c.loop-pruner.pruners c.loop-pruner.pruner-index c.pruner-item.result).value
    c.args.task.now c.args.state.now)
    c.in-Some.is c.in_ok-line.ensures.covered))

pub returns-in-Some-clause-fits : goal.returns-in-Some-clause-fits
returns-in-Some-clause-fits g c = λ lines extends.
    all_set c.loop-pruner.pruners c.loop-pruner.pruner-index c.ask_one.new.pruner
    (λ b. (goal.Pruner-dyn g (b.vtable, b.value)).fits b.value c.args.task.now lines)
    (c.ask_one.ensures.fits lines extends)
    (c.loop-pruner.invariant.fits lines
    (extends_then c.args.task.now c.loop-pruner.draft.lines c.ask_one.new.draft.lines lines
    c.ask_one.ensures.extends extends))

pub loop-pruner-preserved : goal.loop-pruner-preserved
loop-pruner-preserved g c =
    let within : c.loop-pruner.pruner-index < length c.loop-pruner.pruners = omega arith in
    let is : c.in_ok-line.field-0 ≡ None = c.in_default.is in
    record {
      draft = found_none c.in_ok-line.field-0 (c.ask_one.new.draft ≡ c.loop-pruner.draft) is
          c.in_ok-line.ensures.none ∙ c.loop-pruner.invariant.draft;
      covers = alike_next c.loop-pruner.pruners c.args.pruners.now c.loop-pruner.pruner-index
          c.pruner-item.result
          c.ask_one.new.pruner (λ b. (goal.Pruner-dyn g (b.vtable, b.value)).covers b.value) within
          c.ask_one.ensures.covers
          c.loop-pruner.invariant.covers;
      none = none_set c.loop-pruner.pruners c.loop-pruner.pruner-index c.pruner-item.result
          c.ask_one.new.pruner
          (λ b. (goal.Pruner-dyn g (b.vtable, b.value)).covers b.value c.args.task.now
          c.args.state.now) within
          c.loop-pruner.invariant.none
          (λ covered. covered_none c.in_ok-line.field-0
          ((goal.Pruner-dyn g (
            (get_or c.loop-pruner.pruners c.loop-pruner.pruner-index
                c.pruner-item.result).vtable,
            (get_or c.loop-pruner.pruners c.loop-pruner.pruner-index
                c.pruner-item.result).value,
          )).covers
          (get_or c.loop-pruner.pruners c.loop-pruner.pruner-index c.pruner-item.result).value
          c.args.task.now c.args.state.now)
          is c.in_ok-line.ensures.covered ((c.ask_one.ensures.covers c.args.task.now
          c.args.state.now).0 covered));
      fits = λ lines extends. all_set c.loop-pruner.pruners c.loop-pruner.pruner-index
          c.ask_one.new.pruner
          (λ b. (goal.Pruner-dyn g (b.vtable, b.value)).fits b.value c.args.task.now lines)
          (c.ask_one.ensures.fits lines extends)
          (c.loop-pruner.invariant.fits lines
          (extends_then c.args.task.now c.loop-pruner.draft.lines c.ask_one.new.draft.lines lines
          c.ask_one.ensures.extends extends));
    }

pub returns-clause-covered : goal.returns-clause-covered
returns-clause-covered g c =
    let whole : length c.loop-pruner.pruners ≤ c.loop-pruner.pruner-index = omega arith in
    λ any.
    none_any c.loop-pruner.pruners c.loop-pruner.pruner-index
    (λ b. (goal.Pruner-dyn g (b.vtable, b.value)).covers b.value c.args.task.now c.args.state.now)
    whole c.loop-pruner.invariant.none
    ((any_alike c.loop-pruner.pruners (λ b. (goal.Pruner-dyn g (b.vtable, b.value)).covers b.value)
    c.args.pruners.now
    c.loop-pruner.invariant.covers c.args.task.now c.args.state.now).1 any)
