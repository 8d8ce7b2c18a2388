use Rattle.std.proofs.Common.{◌∙◌, [], length, refl, sym, ap, subst}
use Rattle.hv_sets.specs.Truth.{in_clauses}
use Rattle.hv_propagation.specs.Clauses.{AreClauses}
use Rattle.hv_formula.specs.Kinded.{CompletesClauses}
use Rattle.hv_propagation.specs.declared.completion.Completion.TheVariants as Ways
use Rattle.hv_formula.proofs.Kinded.{completes}
use Rattle.hv_propagation.proofs.Marked.{over-nil}
use Rattle.hv_propagation.proofs.Trailed.{length-marks}
use Rattle.hv_formula.proofs.closure.try_each.Goals as goal

pub settle-requires-clause-over : goal.settle-requires-clause-over
settle-requires-clause-over g c = (
  subst (λ n. AreClauses n c.args.bare.now.clauses.now)
      (sym (ap length c.loop-index.invariant.roots)) c.requires.clauses,
  c.requires.index,
)

pub settle-requires-clause-completes : goal.settle-requires-clause-completes
settle-requires-clause-completes g c =
    let clauses = c.args.bare.now.clauses.now in
    completes Ways.Try g.K.ClauseKind.is_of
    (subst (λ how. CompletesClauses how g.K.ClauseKind.is_of) c.requires.by_trials
    g.met.K.ClauseKind.completes) (length c.loop-index.marks.roots) [] clauses
    (subst (λ n. AreClauses n clauses) (sym (ap length c.loop-index.invariant.roots))
    c.requires.clauses)
    c.requires.kind

pub returns-then-not-settle : goal.returns-then-not-settle
returns-then-not-settle g c = λ is state size holds.
    c.if-not-settle.ensures.tried.refuted refl state
    (size ∙ sym (length-marks c.loop-index.marks ∙ ap length c.loop-index.invariant.roots))
    (ap (in_clauses c.args.bare.now.clauses.now) (over-nil state) ∙ holds)

pub loop-index-preserved : goal.loop-index-preserved
loop-index-preserved g c = record {
  roots = c.if-not-settle.ensures.grown.roots ∙ c.loop-index.invariant.roots;
  left = c.if-not-settle.ensures.left;
}
