use Rattle.std.proofs.Common.{◌+◌, ◌<◌, ◌≤◌, ◌⊎◌, ℕ, arith, get_or, inl, inr, subst}
use Rattle.std.proofs.lemmas.Bool.{cases_lt}
use Rattle.hv_propagation.specs.declared.watched.ScanState.TheVariants as T
use Rattle.hv_propagation.specs.Trail.{marks_of}
use Rattle.hv_propagation.specs.Working.Scan.{IsScanState, IsSeenIn}
use Rattle.hv_propagation.proofs.watched.search.Goals as goal

-- once round, each place was come to
reached : (from step len k : ℕ) → len ≤ step → k < len
    → ((from ≤ k) × (k < from + step)) ⊎ (k + len < from + step)
reached from step len k past less = elim (cases_lt k from) [
  | inl early ↦ inr (omega (arith, early, past))
  | inr late ↦ inl (late, omega (arith, less, past))
]

pub loop-step-init : goal.loop-step-init
loop-step-init c = record {
  scan_state = c.requires.pending;
  passed = λ p d less either. absurd (elim either [
    | inl span ↦ (let from = span.0 in let upto = span.1 in omega (arith, from, upto))
    | inr low ↦ (let within = c.requires.from in omega (arith, low, within))
  ]);
}

pub read-requires-clause-place : goal.read-requires-clause-place
read-requires-clause-place c = c.place_after-place.ensures.0

pub read-requires-clause-pending : goal.read-requires-clause-pending
read-requires-clause-pending c = c.loop-step.invariant.scan_state

pub returns-in-None : goal.returns-in-None
returns-in-None c = λ k d less.
    subst (λ s. IsSeenIn (T.Left s) c.args.effect.now (marks_of c.args.marks.now)
    (get_or c.args.clause.now k d)) c.in-None.is
    (c.loop-step.invariant.passed k d less
    (reached c.args.from c.loop-step.step _ k c.loop-step-test.false less))

pub returns-in-Some : goal.returns-in-Some
returns-in-Some c =
    let state = subst (λ s. IsScanState (T.Left s) c.args.effect.now (marks_of c.args.marks.now)
    c.args.clause.now) c.in-Some.is c.loop-step.invariant.scan_state in (
      state.0,
      state.1,
      λ k d less.
          subst (λ s. IsSeenIn (T.Left s) c.args.effect.now (marks_of c.args.marks.now)
          (get_or c.args.clause.now k d)) c.in-Some.is
          (c.loop-step.invariant.passed k d less
          (reached c.args.from c.loop-step.step _ k c.loop-step-test.false less)),
    )
