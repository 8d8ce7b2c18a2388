use Rattle.std.proofs.Common.{subst, sym}
use Rattle.hv_lines.proofs.Outcomes.{fits_after}
use Rattle.hv_trap.specs.Pruner.{AreTrapNotes, IsTrapBlock, IsTrapSet, TrapCovers}
use Rattle.hv_trap.proofs.trap_pruner.TrapPruner.answer.Goals as goal

pub trap_answer-requires-clause-fits : goal.trap_answer-requires-clause-fits
trap_answer-requires-clause-fits c = subst (AreTrapNotes c.args.task.now c.args.draft.now.lines)
    (sym c.self.view_is) c.requires.fits

pub returns-clause-fits : goal.returns-clause-fits
returns-clause-fits c =
    fits_after c.args.task.now (TrapCovers c.args.task.now) (IsTrapSet c.args.task.now)
    (IsTrapBlock c.args.task.now c.args.draft.now.lines) c.args.state.now
    c.self.inside.notes.items c.args.draft.now
    c.trap_answer.new.notes.items
    c.trap_answer.new.draft c.trap_answer.result c.trap_answer.ensures.outcome
    c.trap_answer.ensures.err_draft c.trap_answer.ensures.err_notes
    (subst (AreTrapNotes c.args.task.now c.args.draft.now.lines) (sym c.self.view_is)
    c.requires.fits)
