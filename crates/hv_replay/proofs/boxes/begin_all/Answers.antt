use Rattle.std.proofs.Common.{◌<◌, List, arith, length}
use Rattle.hv_task.specs.Strips.{Strips}
use Rattle.hv_lines.specs.declared.line.Line.{Line}
use Rattle.hv_replay.proofs.Alike.{alike_next, alike_same}
use Rattle.hv_replay.proofs.Several.{each_set}
use Rattle.hv_replay.proofs.boxes.begin_all.Goals as goal

pub loop-pruner-init : goal.loop-pruner-init
loop-pruner-init g c = record {
  covers = alike_same c.args.pruners.now (λ b. (goal.Pruner-dyn g (b.vtable, b.value)).covers
      b.value);
  fits = λ k d from upto. absurd (omega (arith, upto));
}

pub loop-pruner-preserved : goal.loop-pruner-preserved
loop-pruner-preserved g c =
    let within : c.loop-pruner.pruner-index < length c.loop-pruner.pruners = omega arith in
    record {
      covers = alike_next c.loop-pruner.pruners c.args.pruners.now c.loop-pruner.pruner-index
          c.pruner-item.result c.begin_one.new.pruner
          (λ b. (goal.Pruner-dyn g (b.vtable, b.value)).covers b.value) within
          c.begin_one.ensures.covers c.loop-pruner.invariant.covers;
      fits = each_set c.loop-pruner.pruners c.loop-pruner.pruner-index c.pruner-item.result
          c.begin_one.new.pruner
          (λ b. (task : Strips) (lines : List Line)
          → (goal.Pruner-dyn g (b.vtable, b.value)).fits b.value task lines)
          within c.loop-pruner.invariant.fits c.begin_one.ensures.fits;
    }
