use Rattle.std.proofs.Common.{◌∙◌, subst, sym}
use Rattle.hv_bytes.specs.Files.{Opens}
use Rattle.hv_grammar.proofs.Whole.{whole_answer}
use Rattle.hv_bound.specs.PlanFile.{plan_file, plan_limits}
use Rattle.hv_bound.proofs.Faults.{no_value}
use Rattle.hv_bound.proofs.PlanReads.{not_found, plan_stopped}
use Rattle.hv_bound.proofs.read.read_plan.Goals as goal

pub returns-in_err-lines-clause-read : goal.returns-in_err-lines-clause-read
returns-in_err-lines-clause-read g c =
    not_found (g.S.Shelf.held c.args.shelf.now) c.args.name.now _ _ _ c.in_err-lines.was
    c.in_err-lines.ensures.outside c.from_residual.ensures.1

pub returns-in_err-lines-clause-few : goal.returns-in_err-lines-clause-few
returns-in_err-lines-clause-few g c =
    no_value c.from_residual.result _ _ c.from_residual.ensures.1

pub returns-in_err-steps-clause-few : goal.returns-in_err-steps-clause-few
returns-in_err-steps-clause-few g c =
    no_value c.from_residual-in_err-steps.result _ _ c.from_residual-in_err-steps.ensures.1

pub returns-in_err-steps-clause-read : goal.returns-in_err-steps-clause-read
returns-in_err-steps-clause-read g c =
    let held = g.S.Shelf.held c.args.shelf.now in
    let name = c.args.name.now in
    plan_stopped held name _ _
    (whole_answer plan_file held name plan_limits _ _ _
    (subst (λ shelf. Opens held name (g.S.Shelf.left shelf)) (sym c.new-reader.ensures.shelf)
    c.in_ok-lines.ensures.opened)
    (c.new-reader.ensures.lines ∙ c.in_ok-lines.ensures.lines) c.in_err-steps.ensures.reads)
    c.from_residual-in_err-steps.ensures.1

pub returns-clause-read : goal.returns-clause-read
returns-clause-read g c =
    let held = g.S.Shelf.held c.args.shelf.now in
    let name = c.args.name.now in
    whole_answer plan_file held name plan_limits _ _ _
    (subst (λ shelf. Opens held name (g.S.Shelf.left shelf)) (sym c.new-reader.ensures.shelf)
    c.in_ok-lines.ensures.opened)
    (c.new-reader.ensures.lines ∙ c.in_ok-lines.ensures.lines) c.in_ok-steps.ensures.reads
