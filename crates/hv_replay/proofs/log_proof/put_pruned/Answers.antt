use Rattle.std.proofs.Common.{◌≡◌, ◌<◌, ◌≤◌, rules, false, true, arith, length, subst, sym}
use Rattle.std.proofs.lemmas.Option.{slice_get_within}
use Rattle.hv_task.specs.State.{state_of}
use Rattle.hv_task.specs.Strips.{atoms}
use Rattle.hv_replay.proofs.Kept.{entry_there}
use Rattle.hv_replay.proofs.Replaying.{first_uncovered, justified_all, next_justified}
use Rattle.hv_replay.proofs.Replaying.{progress_begins, progress_next}
use Rattle.hv_replay.proofs.Alike.{alike_same, alike_then, any_alike}
use Rattle.hv_replay.proofs.Several.{AnyOf}
use Rattle.hv_replay.specs.Working.Progress.{IsProgress}
use Rattle.std.proofs.Common.{[], take}
use Rattle.hv_replay.proofs.log_proof.put_pruned.Goals as goal

pub loop-place-init : goal.loop-place-init
loop-place-init g c = record {
  state = c.requires.state;
  progress = subst (IsProgress c.args.task.now [] c.args.writing.now.draft.lines)
      (sym c.requires.union)
      (progress_begins c.args.task.now c.args.writing.now.draft.lines c.requires.draft
      c.requires.good);
  justified = λ before less. absurd (omega (arith, less));
  covers = alike_same c.args.pruners.now (λ b. (goal.Pruner-dyn g (b.vtable, b.value)).covers
      b.value);
  fits = λ lines extends. c.requires.fits lines;
}

pub returns-in_err-covered-clause-covers : goal.returns-in_err-covered-clause-covers
returns-in_err-covered-clause-covers g c =
    alike_then c.put_one.new.pruners (λ b. (goal.Pruner-dyn g (b.vtable, b.value)).covers b.value)
    c.loop-place.pruners c.args.pruners.now
    c.put_one.ensures.covers c.loop-place.invariant.covers

pub returns-then-not-covered-clause-uncovered : goal.returns-then-not-covered-clause-uncovered
returns-then-not-covered-clause-uncovered g c =
    let within : c.loop-place.place < length c.args.log.now.entries = omega
    (arith, c.len-place-end.ensures, c.loop-place-test.true) in
    let w = entry_there c.args.log.now c.loop-place.place within in
    let here = state_of (atoms c.args.task.now) w.0.state in
    let no : c.in_ok-covered.covered ≡ false = search rules in
    let is = c.in_ok-covered.ensures.uncovered w.0 w.1 no in (
      c.loop-place.place,
      c.line_of.ensures,
      slice_get_within c.args.log.now.entries c.loop-place.place w.0 w.1,
      first_uncovered c.args.log.now (atoms c.args.task.now) c.requires.atoms
          (λ state. AnyOf c.args.pruners.now (λ b. (goal.Pruner-dyn g (b.vtable, b.value)).covers
          b.value c.args.task.now state))
          c.loop-place.place w.0 w.1 c.loop-place.invariant.justified is.0
          (λ any. is.1 ((any_alike c.loop-place.pruners
          (λ b. (goal.Pruner-dyn g (b.vtable, b.value)).covers b.value) c.args.pruners.now
          c.loop-place.invariant.covers c.args.task.now here).1 any)),
    )

pub returns-then-not-covered-clause-covers : goal.returns-then-not-covered-clause-covers
returns-then-not-covered-clause-covers g c =
    alike_then c.put_one.new.pruners (λ b. (goal.Pruner-dyn g (b.vtable, b.value)).covers b.value)
    c.loop-place.pruners c.args.pruners.now
    c.put_one.ensures.covers c.loop-place.invariant.covers

pub loop-place-preserved : goal.loop-place-preserved
loop-place-preserved g c =
    let within : c.loop-place.place < length c.args.log.now.entries = omega
    (arith, c.len-place-end.ensures, c.loop-place-test.true) in
    let w = entry_there c.args.log.now c.loop-place.place within in
    let here = state_of (atoms c.args.task.now) w.0.state in
    let yes : c.in_ok-covered.covered ≡ true = search rules in
    record {
      state = c.put_one.ensures.state;
      progress = progress_next c.args.task.now c.args.log.now c.loop-place.place w.0
          c.put_one.new.writing.draft.lines c.put_one.new.writing.union w.1
          (c.in_ok-covered.ensures.progress w.0 w.1 yes
          (take c.loop-place.place c.args.log.now.entries) c.loop-place.invariant.progress);
      justified = next_justified c.args.log.now (atoms c.args.task.now) c.requires.atoms
          (λ state. AnyOf c.args.pruners.now (λ b. (goal.Pruner-dyn g (b.vtable, b.value)).covers
          b.value c.args.task.now state))
          c.loop-place.place w.0 w.1 c.loop-place.invariant.justified
          (λ plain.
          (any_alike c.loop-place.pruners (λ b. (goal.Pruner-dyn g (b.vtable, b.value)).covers
          b.value) c.args.pruners.now
          c.loop-place.invariant.covers c.args.task.now here).0
          (c.in_ok-covered.ensures.covered w.0 w.1 yes plain));
      covers = alike_then c.put_one.new.pruners
          (λ b. (goal.Pruner-dyn g (b.vtable, b.value)).covers b.value) c.loop-place.pruners
          c.args.pruners.now c.put_one.ensures.covers c.loop-place.invariant.covers;
      fits = c.put_one.ensures.fits;
    }

pub returns-clause-justified : goal.returns-clause-justified
returns-clause-justified g c =
    let whole : length c.args.log.now.entries
    ≤ c.loop-place.place = omega (arith, c.len-place-end.ensures, c.loop-place-test.false) in
    justified_all c.args.log.now
    (λ state. AnyOf c.args.pruners.now (λ b. (goal.Pruner-dyn g (b.vtable, b.value)).covers b.value
    c.args.task.now state))
    c.loop-place.place whole c.loop-place.invariant.justified
