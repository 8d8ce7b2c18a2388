use Rattle.std.proofs.Common.{◌++◌, ◌∷◌, ◌∙◌, ◌≡◌, ℕ, [], List, ap, inl, inr, subst, sym}
use Rattle.std.specs.List.{Contains}
use Rattle.std.proofs.lemmas.List.Elements.{Contains-append_left, Contains-push}
use Rattle.hv_reach.specs.Working.Passed.{AreTouched}
use Rattle.hv_reach.proofs.passed.touch.Goals as goal

touched_more : (places old new : List ℕ) (number : ℕ) → new ≡ old ++ number ∷ []
    → AreTouched places old → AreTouched places new
touched_more places old new number more are = λ k.
    elim (are k) [
      | inl zero ↦ inl zero
      | inr at ↦ inr (subst (λ xs. Contains xs k) (sym more)
          (Contains-append_left old (number ∷ []) k at))
    ]

pub returns-in_err-reserve-clause-kept : goal.returns-in_err-reserve-clause-kept
returns-in_err-reserve-clause-kept c =
    subst (AreTouched c.args.places.now.items) (sym c.reserve.ensures.items) c.requires.touched

pub returns-clause-kept : goal.returns-clause-kept
returns-clause-kept c =
    touched_more c.args.places.now.items c.args.touched.now.items _ c.args.number
    (c.push_reserved.ensures.items ∙ ap (λ (xs : List ℕ). xs ++ c.args.number ∷ [])
    c.reserve.ensures.items) c.requires.touched

pub returns-clause-here : goal.returns-clause-here
returns-clause-here c =
    inr (subst (λ xs. Contains xs c.args.number) (sym c.push_reserved.ensures.items)
    (Contains-push c.reserve.new.self.items c.args.number))
