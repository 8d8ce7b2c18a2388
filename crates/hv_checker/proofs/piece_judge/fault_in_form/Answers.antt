use Rattle.hv_lines.specs.Good.{FamilyFits, IsKnown}
use Rattle.hv_lines.specs.Numbering.{IsNumbered}
use Rattle.hv_lines.specs.Setting.{setting_of}
use Rattle.hv_lines.proofs.Reasons.{for_family, for_number, for_reference}
use Rattle.hv_checker.proofs.Told.{untold}
use Rattle.hv_checker.proofs.piece_judge.fault_in_form.Goals as goal

pub returns-then-not-is_numbered : goal.returns-then-not-is_numbered
returns-then-not-is_numbered c = λ budget.
    let lines = c.args.table.now.lines in
    let line = c.args.line.now in
    for_number (setting_of c.args.task.now c.args.diagrams.now budget) lines line c.requires
    (untold c.is_numbered.result (IsNumbered lines line) c.is_numbered.ensures
    c.if-not-is_numbered.true)

pub returns-then-not-is_known : goal.returns-then-not-is_known
returns-then-not-is_known c = λ budget.
    let lines = c.args.table.now.lines in
    let line = c.args.line.now in
    for_reference (setting_of c.args.task.now c.args.diagrams.now budget) lines line c.requires
    (c.is_numbered.ensures.0 c.if-not-is_numbered.false)
    (untold c.is_known.result (IsKnown c.args.task.now c.args.diagrams.now lines line)
    c.is_known.ensures c.if-not-is_known.true)

pub returns-then-not-family_fits : goal.returns-then-not-family_fits
returns-then-not-family_fits c = λ budget.
    let lines = c.args.table.now.lines in
    let line = c.args.line.now in
    for_family (setting_of c.args.task.now c.args.diagrams.now budget) lines line c.requires
    (c.is_numbered.ensures.0 c.if-not-is_numbered.false)
    (c.is_known.ensures.0 c.if-not-is_known.false)
    (untold c.family_fits.result (FamilyFits line) c.family_fits.ensures c.if-not-family_fits.true)

pub returns : goal.returns
returns c = λ budget. record {
  spelled = c.requires;
  numbered = c.is_numbered.ensures.0 c.if-not-is_numbered.false;
  known = c.is_known.ensures.0 c.if-not-is_known.false;
  family = c.family_fits.ensures.0 c.if-not-family_fits.false;
}
