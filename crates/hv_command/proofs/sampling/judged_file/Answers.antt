use Rattle.std.proofs.Common.{◌∙◌}
use Rattle.hv_bytes.specs.Files.{held_of}
use Rattle.hv_command.proofs.Checked.{file_unsolvable}
use Rattle.hv_command.proofs.sampling.judged_file.Goals as goal

pub returns-clause-answer : goal.returns-clause-answer
returns-clause-answer c =
    let file = c.new-proof.ensures in
    let said = file_unsolvable c.args.task.now c.none-diagrams.result c.atoms.result
    (held_of c.args.shelf.now.files) c.new-proof.result.name.now c.new-proof.result.budget
    c.new-proof.result.report c.in_ok-answer.answer.status c.in_ok-answer.answer.text
    c.requires c.atoms.ensures.atoms c.none-diagrams.ensures (file.name ∙ c.in_ok-name.ensures)
    file.budget file.report c.in_ok-answer.ensures.answer in
    record { status_is = said.0; text_is = said.1 }
