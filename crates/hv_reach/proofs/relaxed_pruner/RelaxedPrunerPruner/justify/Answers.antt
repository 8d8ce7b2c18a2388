use Rattle.hv_reach.specs.Working.Fitting.{relaxed_fits}
use Rattle.hv_reach.proofs.relaxed_pruner.RelaxedPrunerPruner.justify.Goals as goal

pub returns-clause-fits : goal.returns-clause-fits
returns-clause-fits c =
    λ lines extends. relaxed_fits c.args.task.now c.answer.new.draft.lines lines c.answer.new.self
    c.answer.ensures.fits extends
