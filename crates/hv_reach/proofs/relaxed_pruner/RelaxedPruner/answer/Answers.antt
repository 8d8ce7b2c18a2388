use Rattle.std.proofs.Common.{subst, sym}
use Rattle.std.specs.Option.{IfSome}
use Rattle.hv_task.specs.Strips.{atoms}
use Rattle.hv_lines.proofs.Outcomes.{fits_after}
use Rattle.hv_reach.specs.Index.{AreSearchRowsOf}
use Rattle.hv_reach.specs.Pruners.{FitRelaxed, HoldsAtomsOf, IsDenied, IsRelaxedBlock}
use Rattle.hv_reach.specs.Written.{RelaxedExcludesFrom}
use Rattle.hv_reach.proofs.Writing.{described_after}
use Rattle.hv_reach.proofs.relaxed_pruner.RelaxedPruner.answer.Goals as goal

pub relaxed_answer-requires-clause-fits : goal.relaxed_answer-requires-clause-fits
relaxed_answer-requires-clause-fits c =
    (subst (FitRelaxed c.args.task.now c.args.draft.now.lines) (sym c.self.view_is)
    c.requires.fits).0

pub relaxed_answer-requires-clause-described : goal.relaxed_answer-requires-clause-described
relaxed_answer-requires-clause-described c =
    (subst (FitRelaxed c.args.task.now c.args.draft.now.lines) (sym c.self.view_is)
    c.requires.fits).1

pub relaxed_answer-requires-clause-search : goal.relaxed_answer-requires-clause-search
relaxed_answer-requires-clause-search c =
    subst (λ s. IfSome s (AreSearchRowsOf c.args.task.now)) c.in-Some.is
    (subst (FitRelaxed c.args.task.now c.args.draft.now.lines) (sym c.self.view_is)
    c.requires.fits).2

pub returns-in_err-search-in-None-clause-fits : goal.returns-in_err-search-in-None-clause-fits
returns-in_err-search-in-None-clause-fits c =
    subst (FitRelaxed c.args.task.now c.args.draft.now.lines) (sym c.self.view_is)
    c.requires.fits

pub relaxed_answer-requires-in-None-clause-fits : goal.relaxed_answer-requires-in-None-clause-fits
relaxed_answer-requires-in-None-clause-fits c =
    (subst (FitRelaxed c.args.task.now c.args.draft.now.lines) (sym c.self.view_is)
    c.requires.fits).0

pub relaxed_answer-requires-in-None-clause-described
    : goal.relaxed_answer-requires-in-None-clause-described
relaxed_answer-requires-in-None-clause-described c =
    (subst (FitRelaxed c.args.task.now c.args.draft.now.lines) (sym c.self.view_is)
    c.requires.fits).1

pub returns-in_err-found-in-None-clause-fits : goal.returns-in_err-found-in-None-clause-fits
returns-in_err-found-in-None-clause-fits c =
    let e = c.relaxed_answer-in-None.ensures in
    let n = c.relaxed_answer-in-None.new in
    let fits = subst (FitRelaxed c.args.task.now c.args.draft.now.lines) (sym c.self.view_is)
    c.requires.fits in (
      fits_after c.args.task.now (RelaxedExcludesFrom c.args.task.now)
          (IsDenied (atoms c.args.task.now))
          (IsRelaxedBlock c.args.task.now c.args.state.now c.args.draft.now.lines) c.args.state.now
          c.self.inside.noted.notes.items c.args.draft.now n.noted.notes.items n.draft
          c.relaxed_answer-in-None.result
          e.outcome e.err_draft e.err_notes fits.0,
      described_after HoldsAtomsOf c.args.task.now c.args.draft.now n.draft
          c.self.inside.noted.notes.items n.noted.notes.items c.self.inside.noted.rows.rows
          n.noted.rows.rows c.relaxed_answer-in-None.result e.described e.err_draft e.err_notes
          e.err_reached fits.1,
      fits.2,
    )

pub returns-in-Some-clause-fits : goal.returns-in-Some-clause-fits
returns-in-Some-clause-fits c =
    let e = c.relaxed_answer.ensures in
    let n = c.relaxed_answer.new in
    let fits = subst (FitRelaxed c.args.task.now c.args.draft.now.lines) (sym c.self.view_is)
    c.requires.fits in (
      fits_after c.args.task.now (RelaxedExcludesFrom c.args.task.now)
          (IsDenied (atoms c.args.task.now))
          (IsRelaxedBlock c.args.task.now c.args.state.now c.args.draft.now.lines) c.args.state.now
          c.self.inside.noted.notes.items c.args.draft.now n.noted.notes.items n.draft
          c.relaxed_answer.result e.outcome e.err_draft e.err_notes fits.0,
      described_after HoldsAtomsOf c.args.task.now c.args.draft.now n.draft
          c.self.inside.noted.notes.items n.noted.notes.items c.self.inside.noted.rows.rows
          n.noted.rows.rows c.relaxed_answer.result e.described e.err_draft e.err_notes
          e.err_reached fits.1,
      subst (AreSearchRowsOf c.args.task.now) (sym e.search)
          (subst (λ s. IfSome s (AreSearchRowsOf c.args.task.now)) c.in-Some.is fits.2),
    )
