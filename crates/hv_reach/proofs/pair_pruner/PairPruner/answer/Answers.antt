use Rattle.std.proofs.Common.{arith, subst, sym}
use Rattle.std.specs.Option.{IfSome}
use Rattle.hv_task.specs.Strips.{atoms}
use Rattle.hv_lines.proofs.Outcomes.{fits_after, outcome_beyond}
use Rattle.hv_reach.specs.Index.{IsTaskIndex}
use Rattle.hv_reach.specs.Pruners.{FitPairs, HoldsPairsOf, IsDenied, IsPairsBlock}
use Rattle.hv_reach.specs.Pruners.{PairsCover}
use Rattle.hv_reach.proofs.Writing.{described_after}
use Rattle.hv_reach.proofs.pair_pruner.PairPruner.answer.Goals as goal

pub pairs_answer-requires-clause-fits : goal.pairs_answer-requires-clause-fits
pairs_answer-requires-clause-fits c =
    (subst (FitPairs c.args.task.now c.args.draft.now.lines) (sym c.self.view_is)
    c.requires.fits).0

pub pairs_answer-requires-clause-described : goal.pairs_answer-requires-clause-described
pairs_answer-requires-clause-described c =
    (subst (FitPairs c.args.task.now c.args.draft.now.lines) (sym c.self.view_is)
    c.requires.fits).1

pub pairs_answer-requires-clause-index : goal.pairs_answer-requires-clause-index
pairs_answer-requires-clause-index c =
    subst (λ x. IfSome x (IsTaskIndex c.args.task.now)) c.in-Some.is
    (subst (FitPairs c.args.task.now c.args.draft.now.lines) (sym c.self.view_is)
    c.requires.fits).2

pub returns-in_err-space-in-None-clause-fits : goal.returns-in_err-space-in-None-clause-fits
returns-in_err-space-in-None-clause-fits c =
    subst (FitPairs c.args.task.now c.args.draft.now.lines) (sym c.self.view_is)
    c.requires.fits

pub pairs_answer-requires-in-None-clause-fits : goal.pairs_answer-requires-in-None-clause-fits
pairs_answer-requires-in-None-clause-fits c =
    (subst (FitPairs c.args.task.now c.args.draft.now.lines) (sym c.self.view_is)
    c.requires.fits).0

pub pairs_answer-requires-in-None-clause-described
    : goal.pairs_answer-requires-in-None-clause-described
pairs_answer-requires-in-None-clause-described c =
    (subst (FitPairs c.args.task.now c.args.draft.now.lines) (sym c.self.view_is)
    c.requires.fits).1

pub returns-in_err-found-in-None-clause-fits : goal.returns-in_err-found-in-None-clause-fits
returns-in_err-found-in-None-clause-fits c =
    let e = c.pairs_answer-in-None.ensures in
    let n = c.pairs_answer-in-None.new in
    let fits = subst (FitPairs c.args.task.now c.args.draft.now.lines) (sym c.self.view_is)
    c.requires.fits in (
      fits_after c.args.task.now (PairsCover c.args.task.now) (IsDenied (atoms c.args.task.now))
          (IsPairsBlock c.args.task.now c.args.state.now c.args.draft.now.lines) c.args.state.now
          c.self.inside.kept.noted.notes.items c.args.draft.now n.kept.noted.notes.items n.draft
          c.pairs_answer-in-None.result
          e.outcome e.err_draft e.err_notes fits.0,
      described_after HoldsPairsOf c.args.task.now c.args.draft.now n.draft
          c.self.inside.kept.noted.notes.items n.kept.noted.notes.items
          c.self.inside.kept.reached.items
          n.kept.reached.items c.pairs_answer-in-None.result e.described e.err_draft e.err_notes
          e.err_reached fits.1,
      fits.2,
    )

pub returns-in-Some-clause-fits : goal.returns-in-Some-clause-fits
returns-in-Some-clause-fits c =
    let e = c.pairs_answer.ensures in
    let n = c.pairs_answer.new in
    let fits = subst (FitPairs c.args.task.now c.args.draft.now.lines) (sym c.self.view_is)
    c.requires.fits in (
      fits_after c.args.task.now (PairsCover c.args.task.now) (IsDenied (atoms c.args.task.now))
          (IsPairsBlock c.args.task.now c.args.state.now c.args.draft.now.lines) c.args.state.now
          c.self.inside.kept.noted.notes.items c.args.draft.now n.kept.noted.notes.items n.draft
          c.pairs_answer.result e.outcome e.err_draft e.err_notes fits.0,
      described_after HoldsPairsOf c.args.task.now c.args.draft.now n.draft
          c.self.inside.kept.noted.notes.items n.kept.noted.notes.items
          c.self.inside.kept.reached.items
          n.kept.reached.items c.pairs_answer.result e.described e.err_draft e.err_notes
          e.err_reached fits.1,
      subst (IsTaskIndex c.args.task.now) (sym e.index)
          (subst (λ x. IfSome x (IsTaskIndex c.args.task.now)) c.in-Some.is fits.2),
    )

-- in so great a task no state is covered
pub returns-then-atoms-gt-MOST_ATOMS-clause-answer
    : goal.returns-then-atoms-gt-MOST_ATOMS-clause-answer
returns-then-atoms-gt-MOST_ATOMS-clause-answer c =
    let task = c.args.task.now in
    let over = c.if-atoms-gt-MOST_ATOMS.true in
    let count = c.atoms.ensures.atoms in
    (outcome_beyond task (PairsCover task) (IsDenied (atoms task))
    (IsPairsBlock task c.args.state.now c.args.draft.now.lines) c.args.state.now
    c.args.self.now.notes c.args.draft.now c.requires.state c.requires.good
    (c.requires.fits.0) (λ cover. let few = cover.0 in omega (arith, over, count, few))).answer
