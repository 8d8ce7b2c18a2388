use Rattle.std.proofs.Common.{◌<◌, ℕ, List, take}
use Rattle.hv_task.specs.Strips.{IsState}
use Rattle.hv_lines.specs.Pruning.{Extends}
use Rattle.hv_lines.specs.declared.line.Line.{Line}
use Rattle.hv_replay.specs.Closed.{IsJustified}
use Rattle.hv_replay.specs.Working.Progress.{IsProgress}
use Rattle.hv_replay.specs.Replayed.{pruned_in}
use Rattle.hv_replay.proofs.Alike.{AlikeOf}
use Rattle.hv_replay.proofs.Several.{AllOf, AnyOf}
use Rattle.hv_replay.proofs.log_proof.put_pruned.Given as goal

abbrev pub invariant-loop-place : goal.invariant-loop-place
invariant-loop-place g l = record {
  state : IsState l.task l.writing.state;
  progress : IsProgress l.task (pruned_in (take l.place l.log.entries)) l.writing.draft.lines
      l.writing.union;
  justified : (before : ℕ) → before < l.place → IsJustified l.log
      (λ state. AnyOf l.initial.pruners (λ b. (goal.Pruner-dyn g (b.vtable, b.value)).covers b.value
      l.task state)) before;
  covers : AlikeOf l.pruners l.initial.pruners
      (λ b. (goal.Pruner-dyn g (b.vtable, b.value)).covers b.value);
  fits : (lines : List Line) → Extends l.task l.writing.draft.lines lines
      → AllOf l.pruners (λ b. (goal.Pruner-dyn g (b.vtable, b.value)).fits b.value l.task lines);
}
