use Rattle.std.proofs.Common.{arith, inl, inr, refl}
use Rattle.hv_basic.proofs.picked.put.Goals as goal

pub returns-clause-kept : goal.returns-clause-kept
returns-clause-kept c = λ k h. (c.in_ok-insert.ensures.ok.has k).1 (inl h)

pub returns-clause-has : goal.returns-clause-has
returns-clause-has c = λ _. (c.in_ok-insert.ensures.ok.has c.args.number).1 (inr refl)

pub returns-clause-below : goal.returns-clause-below
returns-clause-below c = λ k h.
    elim ((c.in_ok-insert.ensures.ok.has k).0 h) [
      | inl old ↦ inl old
      | inr e ↦ inr (omega (arith, e, c.if-number-actions.false))
    ]
