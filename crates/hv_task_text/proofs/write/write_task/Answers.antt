use Rattle.std.proofs.Common.{◌++◌, ◌≤◌, ap, sym, subst, ◌∙◌, length}
use Rattle.std.specs.Prelude.{codes}
use Rattle.std.specs.Fmt.{decimal}
use Rattle.hv_task_text.specs.Canonical.{bytes_of_lines, head_of, with_lf}
use Rattle.hv_task_text.specs.Written.{head_lines}
use Rattle.hv_task_text.specs.TaskText.{TaskText}
use Rattle.hv_bytes.specs.Standard.{most_file_bytes, standard}
use Rattle.hv_task_text.proofs.Appended.{task_written}
use Rattle.hv_task_text.proofs.Readable.{readable}
use Rattle.hv_task_text.proofs.write.write_task.Goals as goal

pub returns-clause-text : goal.returns-clause-text
returns-clause-text c =
    task_written c.args.task.now c.write_head.new.text c.write_number.new.text
    c.write_actions.new.text c.write_line.new.text
    (c.in_ok-write_head.ensures.text ∙ ap (λ t. t
    ++ bytes_of_lines (head_lines (head_of c.args.task.now))) c.new-text.ensures)
    (c.in_ok-write_number.ensures ∙ ap (λ n. c.write_head.new.text
    ++ with_lf (codes "begin_actions:" ++ decimal n))
    (c.from.ensures ∙ c.actions.ensures.actions))
    c.in_ok-write_actions.ensures.text
    c.in_ok-write_line.ensures

pub returns-clause-readable : goal.returns-clause-readable
returns-clause-readable c =
    λ names short.
    let e = returns-clause-text c in
    subst (λ text. TaskText standard text c.args.task.now) (sym e)
    (readable c.args.task.now c.actions.ensures.task c.in_ok-write_head.ensures.start
    c.in_ok-write_head.ensures.goal c.in_ok-write_actions.ensures.stored names
    (subst (λ text. length text ≤ most_file_bytes) e short))
