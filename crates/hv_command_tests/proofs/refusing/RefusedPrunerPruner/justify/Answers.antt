use Rattle.hv_reach.specs.Working.Fitting.{relaxed_fits}
use Rattle.hv_command_tests.proofs.refusing.RefusedPrunerPruner.justify.Goals as goal

pub returns-then-self-eq2-clause-fits : goal.returns-then-self-eq2-clause-fits
returns-then-self-eq2-clause-fits c =
    λ lines extends. relaxed_fits c.args.task.now c.args.draft.now.lines lines
    c.args.self.now.pruner c.requires.fits extends
