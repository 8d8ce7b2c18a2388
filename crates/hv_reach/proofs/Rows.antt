-- Which actions ask for an atom.
use Rattle.std.proofs.Common.{◌≡◌, ℕ, ◌+◌, ◌<◌, ◌∙◌, List, length, get_or}
use Rattle.std.proofs.Common.{ap, arith, inl, inr, subst, slice_get, Some}
use Rattle.std.proofs.lemmas.Bool.{cases_lt}
use Rattle.std.specs.List.{All}
use Rattle.std.specs.Global.{Vec}
use Rattle.hv_task.specs.declared.action.Action.{Action}
use Rattle.hv_rows.specs.Rows.{IsInRow}

-- the number is in the rows of the places so far
pub entered_more : (old new : List (Vec ℕ)) (places : List ℕ) (i x n : ℕ) → i < length places
    → x ≡ get_or places i 0
    → ((p k : ℕ) → IsInRow old p k → IsInRow new p k) → IsInRow new x n
    → ((j : ℕ) → j < i → IsInRow old (get_or places j 0) n) → (j : ℕ) → j < i + 1
    → IsInRow new (get_or places j 0) n
entered_more old new places i x n less e keeps here before j below =
    elim (cases_lt j i) [
      | inl lt ↦ keeps (get_or places j 0) n (before j lt)
      | inr ge ↦ let same : i ≡ j = omega arith in
          subst (λ y. IsInRow new (get_or places y 0) n) same (subst (λ y. IsInRow new y n) e here)
    ]

-- the actions so far are in their rows
pub indexed_more : (old new : List (Vec ℕ)) (actions : List Action) (n : ℕ) (b : Action)
    → slice_get actions n ≡ Some b
    → ((p k : ℕ) → IsInRow old p k → IsInRow new p k) → All (λ p. IsInRow new p n) b.pre
    → ((k : ℕ) (a : Action) → k < n → slice_get actions k ≡ Some a → All (λ p. IsInRow old p k) a.pre)
    → (k : ℕ) (a : Action) → k < n + 1 → slice_get actions k ≡ Some a
    → All (λ p. IsInRow new p k) a.pre
indexed_more old new actions n b at keeps here before k a below is =
    elim (cases_lt k n) [
      | inl lt ↦ λ i d less. keeps (get_or a.pre i d) k (before k a lt is i d less)
      | inr ge ↦
          let same : n ≡ k = omega arith in
          let e : b ≡ a = let f = subst (λ m. slice_get actions m ≡ Some b) same at in cc in
          subst (λ m. All (λ p. IsInRow new p m) a.pre) same
          (subst (λ (x : Action). All (λ p. IsInRow new p n) x.pre) e here)
    ]

pub past_more : (x : ℕ) (old new : List (Vec ℕ)) (actions : List Action) (n : ℕ) (b : Action)
    → slice_get actions n ≡ Some b
    → ((p k : ℕ) → IsInRow old p k → IsInRow new p k) → (length b.pre ≡ 0 → IsInRow new x n)
    → ((k : ℕ) (a : Action) → k < n → slice_get actions k ≡ Some a → length a.pre ≡ 0
    → IsInRow old x k)
    → (k : ℕ) (a : Action) → k < n + 1 → slice_get actions k ≡ Some a → length a.pre ≡ 0
    → IsInRow new x k
past_more x old new actions n b at keeps here before k a below is none =
    elim (cases_lt k n) [
      | inl lt ↦ keeps x k (before k a lt is none)
      | inr ge ↦
          let same : n ≡ k = omega arith in
          let e : b ≡ a = let f = subst (λ m. slice_get actions m ≡ Some b) same at in cc in
          subst (λ m. IsInRow new x m) same (here (ap (λ (y : Action). length y.pre) e ∙ none))
    ]
