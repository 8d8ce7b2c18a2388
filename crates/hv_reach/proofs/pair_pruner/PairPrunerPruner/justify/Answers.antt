use Rattle.hv_reach.specs.Working.Fitting.{pairs_fit}
use Rattle.hv_reach.proofs.pair_pruner.PairPrunerPruner.justify.Goals as goal

pub returns-clause-fits : goal.returns-clause-fits
returns-clause-fits c =
    λ lines extends. pairs_fit c.args.task.now c.answer.new.draft.lines lines c.answer.new.self
    c.answer.ensures.fits extends
