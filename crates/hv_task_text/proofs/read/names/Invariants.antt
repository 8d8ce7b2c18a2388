use Rattle.std.proofs.Common.{◌≡◌, ◌-◌, length}
use Rattle.hv_grammar.specs.Parsers.{iterate, one_more, repeat}
use Rattle.hv_grammar.specs.Positions.{CanRead}
use Rattle.hv_grammar.proofs.Going.{Goes}
use Rattle.hv_task_text.specs.TaskFile.{line_of_name}
use Rattle.hv_task_text.specs.Working.Reading.{no_task}
use Rattle.hv_task_text.specs.declared.fault.TaskKind.TheVariants as K
use Rattle.hv_task_text.proofs.read.names.Given as goal

abbrev pub invariant-loop-done : goal.invariant-loop-done
invariant-loop-done g l = record {
  goes : Goes (repeat l.fn.count (line_of_name K.AtomName)) (g.R.Source.position l.fn.reader)
      (iterate (l.fn.count - l.done) (one_more (line_of_name K.AtomName)) l.task.names)
      (g.R.Source.position l.reader);
  can : CanRead (g.R.Source.position l.reader);
  count : length l.task.names ≡ l.done;
  task : l.task ≡ record no_task { names = l.task.names };
}
