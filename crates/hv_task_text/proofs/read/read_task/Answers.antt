use Rattle.std.proofs.Common.{◌∙◌, subst, sym}
use Rattle.hv_bytes.specs.Files.{Opens}
use Rattle.hv_grammar.proofs.Whole.{whole_answer}
use Rattle.hv_task_text.specs.TaskFile.{task_file}
use Rattle.hv_task_text.proofs.Joined.{answers_task}
use Rattle.hv_task_text.proofs.TaskReads.{not_found, task_stopped}
use Rattle.hv_task_text.proofs.read.read_task.Goals as goal

pub returns-clause-read : goal.returns-clause-read
returns-clause-read g c =
    let held = g.S.Shelf.held c.args.shelf.now in
    let name = c.args.name.now in
    answers_task held name c.args.limits _
    (whole_answer task_file held name c.args.limits _ _ _
    (subst (λ shelf. Opens held name (g.S.Shelf.left shelf)) (sym c.new-reader.ensures.shelf)
    c.in_ok-lines.ensures.opened)
    (c.new-reader.ensures.lines ∙ c.in_ok-lines.ensures.lines) c.in_ok-task.ensures)

pub returns-in_err-lines-clause-read : goal.returns-in_err-lines-clause-read
returns-in_err-lines-clause-read g c =
    not_found (g.S.Shelf.held c.args.shelf.now) c.args.name.now c.args.limits _ _ _
    c.in_err-lines.was c.in_err-lines.ensures.outside c.from_residual.ensures.1

pub returns-in_err-task-clause-read : goal.returns-in_err-task-clause-read
returns-in_err-task-clause-read g c =
    let held = g.S.Shelf.held c.args.shelf.now in
    let name = c.args.name.now in
    task_stopped held name c.args.limits _ _
    (whole_answer task_file held name c.args.limits _ _ _
    (subst (λ shelf. Opens held name (g.S.Shelf.left shelf)) (sym c.new-reader.ensures.shelf)
    c.in_ok-lines.ensures.opened)
    (c.new-reader.ensures.lines ∙ c.in_ok-lines.ensures.lines) c.in_err-task.ensures)
    c.from_residual-in_err-task.ensures.1
