-- Rows to which one number was put.
use Rattle.std.proofs.Common.{◌≡◌, ◌<◌, ◌∙◌, ℕ, zero, suc, List, [], ◌∷◌, Some, ap, inl, inr}
use Rattle.std.proofs.Common.{refl, set, slice_get, subst, sym}
use Rattle.std.proofs.lemmas.Bool.{cases_eq}
use Rattle.std.proofs.lemmas.List.Elements.{All-push, Contains-append_left, Contains-push}
use Rattle.std.specs.Global.{Vec}
use Rattle.std.specs.List.{Contains}
use Rattle.hv_task.specs.State.{AreBelow}
use Rattle.hv_rows.specs.Rows.{HasEntered, IsInRow, RowsBelow}

-- a list with another item at a place, elsewhere
pub set_elsewhere : {X : Type 0} (xs : List X) (i p : ℕ) (x : X) → (i ≡ p → ⊥)
    → slice_get (set xs i x) p ≡ slice_get xs p
set_elsewhere [] i p x other = refl
set_elsewhere (y ∷ xs) zero zero x other = absurd (other refl)
set_elsewhere (y ∷ xs) zero (suc p) x other = refl
set_elsewhere (y ∷ xs) (suc i) zero x other = refl
set_elsewhere (y ∷ xs) (suc i) (suc p) x other = set_elsewhere xs i p x (λ e. other (ap suc e))

module _ (place number : ℕ) (before after : List (Vec ℕ))
    (entered : HasEntered place number before after) where
  -- the row that is found at the place is the one that has the number
  its_row : (p : ℕ) (row : Vec ℕ) → place ≡ p → slice_get after p ≡ Some row → entered.row ≡ row
  its_row p row same there =
      let here = subst (λ q. slice_get after q ≡ Some entered.row) same entered.has in cc

  pub entered_keeps : (p k : ℕ) → IsInRow before p k → IsInRow after p k
  entered_keeps p k is row there =
      elim (cases_eq place p) [
        | inl same ↦
            subst (λ (r : Vec ℕ). Contains r.items k) (its_row p row same there)
            (subst (λ xs. Contains xs k) (sym entered.items)
            (Contains-append_left entered.was.items (number ∷ []) k
            (is entered.was (subst (λ q. slice_get before q ≡ Some entered.was) same entered.had))))
        | inr other ↦ is row (sym (entered.others p other) ∙ there)
      ]

  pub entered_has : IsInRow after place number
  entered_has row there =
      subst (λ (r : Vec ℕ). Contains r.items number) (its_row place row refl there)
      (subst (λ xs. Contains xs number) (sym entered.items)
      (Contains-push entered.was.items number))

  pub entered_below : (bound : ℕ) → number < bound → RowsBelow bound before
      → RowsBelow bound after
  entered_below bound small are p row there =
      elim (cases_eq place p) [
        | inl same ↦
            subst (λ (r : Vec ℕ). AreBelow bound r.items) (its_row p row same there)
            (subst (AreBelow bound) (sym entered.items)
            (All-push (λ n. n < bound) entered.was.items number
            (are place entered.was entered.had) small))
        | inr other ↦ are p row (sym (entered.others p other) ∙ there)
      ]
