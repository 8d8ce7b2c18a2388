use Rattle.std.proofs.Common.{arith, inl, inr, refl, subst, sym}
use Rattle.std.specs.List.{Contains}
use Rattle.hv_basic.proofs.long_lists.put_listed.Goals as goal

pub returns-clause-kept : goal.returns-clause-kept
returns-clause-kept c = λ k h. (c.in_ok-insert.ensures.ok.has k).1 (inl h)

pub returns-clause-has : goal.returns-clause-has
returns-clause-has c = λ _ _. (c.in_ok-insert.ensures.ok.has c.args.number).1 (inr refl)

pub returns-clause-only : goal.returns-clause-only
returns-clause-only c = λ k h.
    elim ((c.in_ok-insert.ensures.ok.has k).0 h) [
      | inl old ↦ inl old
      | inr e ↦ inr (
        subst (Contains c.args.listed.now) (sym e)
            (c.names_atom.ensures.0 c.if-not-names_atom.false),
        omega (arith, e, c.if-number-actions.false),
      )
    ]
