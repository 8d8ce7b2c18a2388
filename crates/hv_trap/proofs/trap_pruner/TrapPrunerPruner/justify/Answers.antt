use Rattle.hv_trap.specs.Working.Fitting.{notes_fit}
use Rattle.hv_trap.proofs.trap_pruner.TrapPrunerPruner.justify.Goals as goal

pub returns-clause-fits : goal.returns-clause-fits
returns-clause-fits c =
    λ lines extends. notes_fit c.args.task.now c.answer.new.draft.lines lines c.answer.new.self
    c.answer.ensures.fits extends
