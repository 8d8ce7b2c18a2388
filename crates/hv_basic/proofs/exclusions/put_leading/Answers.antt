use Rattle.std.proofs.Common.{arith, inl, inr, subst, sym}
use Rattle.hv_task.specs.Strips.{IsOver}
use Rattle.hv_basic.specs.Working.Excluded.{AreCompanions}
use Rattle.hv_basic.proofs.exclusions.put_leading.Goals as goal

pub can_lead-requires-clause-over : goal.can_lead-requires-clause-over
can_lead-requires-clause-over c =
    subst (λ n. IsOver n c.action.result.now) (sym c.requires.companions.all.0)
    c.action.ensures.over

pub can_lead-requires-clause-companions : goal.can_lead-requires-clause-companions
can_lead-requires-clause-companions c =
    subst (λ n. AreCompanions n c.args.clauses.now c.args.companions.now)
    (sym c.requires.companions.all.0) c.requires.companions

pub returns-in_ok-put-clause-below : goal.returns-in_ok-put-clause-below
returns-in_ok-put-clause-below c = λ k h.
    elim (c.in_ok-put.ensures.below k h) [
      | inl old ↦ inl old
      | inr less ↦ inr (omega (arith, less, c.actions.ensures.actions))
    ]
