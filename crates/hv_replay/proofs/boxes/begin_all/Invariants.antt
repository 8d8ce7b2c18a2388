use Rattle.std.proofs.Common.{List}
use Rattle.hv_task.specs.Strips.{Strips}
use Rattle.hv_lines.specs.declared.line.Line.{Line}
use Rattle.hv_replay.proofs.Alike.{AlikeOf}
use Rattle.hv_replay.proofs.Several.{EachBefore}
use Rattle.hv_replay.proofs.boxes.begin_all.Given as goal

abbrev pub invariant-loop-pruner : goal.invariant-loop-pruner
invariant-loop-pruner g l = record {
  covers : AlikeOf l.pruners l.initial.pruners
      (λ b. (goal.Pruner-dyn g (b.vtable, b.value)).covers b.value);
  fits : EachBefore l.pruners l.pruner-index
      (λ b. (task : Strips) (lines : List Line)
      → (goal.Pruner-dyn g (b.vtable, b.value)).fits b.value task lines);
}
