use Rattle.std.proofs.Common.{◌∷◌, ◌++◌, [], subst, sym}
use Rattle.hv_grammar.specs.Parsers.{pure}
use Rattle.hv_grammar.proofs.Going.{done, start, stops}
use Rattle.hv_task.specs.Strips.{IsOver}
use Rattle.hv_task_text.specs.TaskFile.{action_lists, item_or}
use Rattle.hv_task_text.specs.Written.{written_action}
use Rattle.hv_task_text.specs.declared.fault.TaskKind.TheVariants as K
use Rattle.hv_task_text.proofs.Listed.{ahead, last_read, more_read}
use Rattle.hv_task_text.proofs.Sets.{none_read}
use Rattle.hv_task_text.proofs.TaskTexts.{action_over}
use Rattle.hv_task_text.proofs.read.action_lists.Goals as goal

pub lines-init : goal.lines-init
lines-init g c = (
  [],
  record {
    goes = start (action_lists c.args.atoms c.args.name c.args.cost) _;
    can = c.requires.can;
    lists = none_read c.args.atoms _ c.requires.fresh;
  },
)

pub returns-in_err-item-clause-reads : goal.returns-in_err-item-clause-reads
returns-in_err-item-clause-reads g c =
    stops _ (ahead K.ActionLine (item_or c.args.atoms) (λ all. pure (written_action c.args.atoms
    (record { name = c.args.name; cost = c.args.cost; items = all }))) c.lines.invariant.1.goes)
    c.in_err-item.ensures.reads c.from_residual.ensures.1

pub lines-preserved : goal.lines-preserved
lines-preserved g c =
    let i = c.lines.invariant.1 in
    let items = c.lines.invariant.0 in (
      items ++ c.in-Some.item ∷ [],
      record {
        goes = more_read K.ActionLine (item_or c.args.atoms)
            (λ all. pure (written_action c.args.atoms
            (record { name = c.args.name; cost = c.args.cost; items = all })))
            c.in_ok-item.field-0 c.in-Some.item i.goes c.in_ok-item.ensures.reads c.in-Some.is;
        can = c.in_ok-item.ensures.reads.can;
        lists = c.in_ok-put.ensures c.args.atoms items
            (rw c.in-Some.is at c.in_ok-item.ensures.is_item) i.lists;
      },
    )

pub returns-clause-reads : goal.returns-clause-reads
returns-clause-reads g c =
    let i = c.lines.invariant.1 in
    done _ _ _ _ _ (last_read K.ActionLine (item_or c.args.atoms)
    (λ all. pure (written_action c.args.atoms
    (record { name = c.args.name; cost = c.args.cost; items = all })))
    c.in_ok-item.field-0 i.goes c.in_ok-item.ensures.reads c.in_default.not-Some)
    c.in_ok-item.ensures.reads.can
    (c.in_ok-action.ensures.action c.args.atoms c.lines.invariant.0 i.lists)

pub returns-clause-over : goal.returns-clause-over
returns-clause-over g c =
    subst (IsOver c.args.atoms) (sym (c.in_ok-action.ensures.action c.args.atoms c.lines.invariant.0
    c.lines.invariant.1.lists)) (action_over c.args.atoms
    (record { name = c.args.name; cost = c.args.cost; items = c.lines.invariant.0 }))
