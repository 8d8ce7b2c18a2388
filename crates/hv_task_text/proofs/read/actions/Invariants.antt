use Rattle.std.proofs.Common.{◌≡◌, ◌-◌, length}
use Rattle.hv_grammar.specs.Parsers.{iterate, one_more, repeat}
use Rattle.hv_grammar.specs.Positions.{CanRead}
use Rattle.hv_grammar.proofs.Going.{Goes}
use Rattle.hv_task.specs.Strips.{atoms}
use Rattle.hv_task_text.specs.TaskFile.{action}
use Rattle.hv_task_text.specs.Working.Reading.{no_lists}
use Rattle.hv_task_text.proofs.read.actions.Given as goal

abbrev pub invariant-loop-done : goal.invariant-loop-done
invariant-loop-done g l = record {
  goes : Goes (repeat l.fn.count (action (atoms l.fn.task))) (g.R.Source.position l.fn.reader)
      (iterate (l.fn.count - l.done) (one_more (action (atoms l.fn.task))) l.task.actions)
      (g.R.Source.position l.reader);
  can : CanRead (g.R.Source.position l.reader);
  count : length l.task.actions ≡ l.done;
  task : l.task ≡ record l.fn.task { actions = l.task.actions };
  lists : l.lists ≡ no_lists;
}
