use Rattle.std.proofs.Common.{◌-◌, List}
use Rattle.hv_grammar.specs.Parsers.{pure}
use Rattle.hv_grammar.specs.Positions.{CanRead}
use Rattle.hv_grammar.proofs.Going.{Goes}
use Rattle.hv_task_text.specs.TaskFile.{action_lists, item_or}
use Rattle.hv_task_text.specs.Working.Reading.{AreOf}
use Rattle.hv_task_text.specs.Written.{written_action}
use Rattle.hv_task_text.specs.declared.fault.TaskKind.TheVariants as K
use Rattle.hv_task_text.specs.declared.atom_lists.Item.{Item}
use Rattle.hv_task_text.proofs.Listed.{left}
use Rattle.hv_task_text.proofs.read.action_lists.Given as goal

abbrev pub invariant-lines : goal.invariant-lines
invariant-lines g l = (items : List Item) × record {
  goes : Goes (action_lists l.fn.atoms l.fn.name l.fn.cost) (g.R.Source.position l.fn.reader)
      (left K.ActionLine (item_or l.fn.atoms) (λ all. pure (written_action l.fn.atoms
      (record { name = l.fn.name; cost = l.fn.cost; items = all }))) items)
      (g.R.Source.position l.reader);
  can : CanRead (g.R.Source.position l.reader);
  lists : AreOf l.fn.atoms items l.lists;
}

abbrev pub decreases-lines : goal.decreases-lines
decreases-lines g l =
    (g.R.Source.position l.fn.reader).lines.limits.file
    - (g.R.Source.position l.reader).lines.number
