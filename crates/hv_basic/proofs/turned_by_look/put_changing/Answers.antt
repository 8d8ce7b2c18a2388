use Rattle.std.proofs.Common.{arith, inl, inr}
use Rattle.hv_basic.proofs.turned_by_look.put_changing.Goals as goal

pub returns-in_ok-put-clause-below : goal.returns-in_ok-put-clause-below
returns-in_ok-put-clause-below c = λ k h.
    elim (c.in_ok-put.ensures.below k h) [
      | inl old ↦ inl old
      | inr less ↦ inr (omega (arith, less, c.actions.ensures.actions))
    ]
