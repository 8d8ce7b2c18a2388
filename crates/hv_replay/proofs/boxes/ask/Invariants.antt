use Rattle.std.proofs.Common.{◌≡◌, List}
use Rattle.hv_lines.specs.Pruning.{Extends}
use Rattle.hv_lines.specs.declared.line.Line.{Line}
use Rattle.hv_replay.proofs.Alike.{AlikeOf}
use Rattle.hv_replay.proofs.Several.{AllOf, EachBefore}
use Rattle.hv_replay.proofs.boxes.ask.Given as goal

abbrev pub invariant-loop-pruner : goal.invariant-loop-pruner
invariant-loop-pruner g l = record {
  draft : l.draft ≡ l.initial.draft;
  covers : AlikeOf l.pruners l.initial.pruners
      (λ b. (goal.Pruner-dyn g (b.vtable, b.value)).covers b.value);
  none : EachBefore l.pruners l.pruner-index
      (λ b. (goal.Pruner-dyn g (b.vtable, b.value)).covers b.value l.task l.state → ⊥);
  fits : (lines : List Line) → Extends l.task l.draft.lines lines
      → AllOf l.pruners (λ b. (goal.Pruner-dyn g (b.vtable, b.value)).fits b.value l.task lines);
}
