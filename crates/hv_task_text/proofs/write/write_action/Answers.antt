use Rattle.std.proofs.Common.{◌++◌, ap, ◌∙◌}
use Rattle.hv_task_text.specs.Canonical.{with_lf}
use Rattle.hv_task_text.proofs.Appended.{action_written}
use Rattle.hv_task_text.proofs.write.write_action.Goals as goal

pub returns-clause-text : goal.returns-clause-text
returns-clause-text c =
    action_written c.args.action.now c.args.text.now c.write_line.new.text c.write_line-2.new.text
    c.write_cost.new.text c.write_atoms.new.text c.write_atoms-2.new.text
    c.write_atoms-3.new.text c.write_line-3.new.text
    c.in_ok-write_line.ensures
    (c.in_ok-write_line-2.ensures ∙ ap (λ name. c.write_line.new.text ++ with_lf name)
    c.as_bytes.ensures)
    c.in_ok-write_cost.ensures.text
    c.in_ok-write_atoms.ensures.text c.in_ok-write_atoms-2.ensures.text
    c.in_ok-write_atoms-3.ensures.text
    c.in_ok-write_line-3.ensures

pub returns-clause-stored : goal.returns-clause-stored
returns-clause-stored c =
    record {
      cost = c.in_ok-write_cost.ensures.small;
      pre = c.in_ok-write_atoms.ensures.rises;
      add =
          c.in_ok-write_atoms-2.ensures.rises;
      del = c.in_ok-write_atoms-3.ensures.rises;
    }
