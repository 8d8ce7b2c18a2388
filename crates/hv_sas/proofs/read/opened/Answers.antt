use Rattle.std.proofs.Common.{◌∙◌, subst, sym}
use Rattle.hv_bytes.specs.Files.{Opens}
use Rattle.hv_grammar.proofs.Whole.{not_opened, whole_answer}
use Rattle.hv_sas.specs.Text as text
use Rattle.hv_sas.proofs.read.opened.Goals as goal

pub returns-clause-read : goal.returns-clause-read
returns-clause-read g c =
    let held = g.S.Shelf.held c.args.shelf.now in
    whole_answer text.sas_file held c.args.name.now c.args.limits _ _ _
    (subst (λ shelf. Opens held c.args.name.now (g.S.Shelf.left shelf))
    (sym c.new-reader.ensures.shelf) c.in_ok-lines.ensures.opened)
    (c.new-reader.ensures.lines ∙ c.in_ok-lines.ensures.lines) c.whole.ensures.reads

pub returns-in_err-lines-clause-read : goal.returns-in_err-lines-clause-read
returns-in_err-lines-clause-read g c =
    not_opened text.sas_file (g.S.Shelf.held c.args.shelf.now) c.args.name.now c.args.limits _ _
    c.in_err-lines.ensures.outside c.from_residual.ensures.1
