-- The goal is excluded exactly where the search finds an unreached atom, or an unreached pair, of
-- it.
use Rattle.std.proofs.Common.{◌≡◌, ℕ, suc, ◌⊎◌, ◌↔◌, Bool, true, false, List, [], ◌∷◌, refl, inl}
use Rattle.std.proofs.Common.{inr, arith}
use Rattle.std.proofs.lemmas.Bool.{both_ways, cases_Bool}
use Rattle.std.proofs.lemmas.List.Elements.{All-cons, All-contains, All-nil}
use Rattle.std.specs.List.{All, Contains}
use Rattle.hv_task.specs.Strips.{Strips}
use Rattle.hv_reach.specs.Reached.{HasPairsOf, ReachedAtom, ReachedPair}
use Rattle.hv_reach.specs.Written.{PairsExcludeFrom, RelaxedExcludesFrom}

-- all of a row, or one that isn't in it
row_cases : (r : ℕ → ℕ → Bool) (p : ℕ) (qs : List ℕ)
    → All (λ q. r p q ≡ true) qs ⊎ ((q : ℕ) × Contains qs q × (r p q ≡ false))
row_cases r p [] = inl (All-nil (λ q. r p q ≡ true))
row_cases r p (q ∷ qs) =
    elim (cases_Bool (r p q)) [
      | inl is ↦ elim (row_cases r p qs) [
        | inl all ↦ inl (All-cons (λ x. r p x ≡ true) q qs is all)
        | inr w ↦ inr (w.0, (suc w.1.0, omega (arith, w.1.1), w.1.2), w.2)
      ]
      | inr fails ↦ inr (q, (0, omega arith, refl), fails)
    ]

module _ (task : Strips) (start : List Bool) (r : ℕ → Bool)
    (each : (p : ℕ) → (r p ≡ true) ↔ ReachedAtom task start p) where
  pub relaxed_excludes : (All (λ p. r p ≡ true) task.goal → ⊥) → RelaxedExcludesFrom task start
  relaxed_excludes out =
      elim (row_cases (λ _ q. r q) 0 task.goal) [
        | inl all ↦ absurd (out all)
        | inr w ↦ (w.0, w.1, λ reached. both_ways (r w.0) w.2 ((each w.0).1 reached))
      ]

  pub relaxed_reached : All (λ p. r p ≡ true) task.goal → RelaxedExcludesFrom task start → ⊥
  relaxed_reached all (p, at, out) = out ((each p).0
      (All-contains (λ x. r x ≡ true) task.goal p all at))

-- all pairs, or one that isn't there
pair_cases : (r : ℕ → ℕ → Bool) (ps qs : List ℕ)
    → All (λ p. All (λ q. r p q ≡ true) qs) ps
    ⊎ ((p : ℕ) × (q : ℕ) × Contains ps p × Contains qs q × (r p q ≡ false))
pair_cases r [] qs = inl (All-nil (λ p. All (λ q. r p q ≡ true) qs))
pair_cases r (p ∷ ps) qs =
    elim (row_cases r p qs) [
      | inl row ↦ elim (pair_cases r ps qs) [
        | inl all ↦ inl (All-cons (λ x. All (λ q. r x q ≡ true) qs) p ps row all)
        | inr w ↦ inr (w.0, w.1, (suc w.2.0, omega (arith, w.2.1), w.2.2), w.3, w.4)
      ]
      | inr w ↦ inr (p, w.0, (0, omega arith, refl), w.1, w.2)
    ]

module _ (task : Strips) (start : List Bool) (r : ℕ → ℕ → Bool)
    (each : (p q : ℕ) → (r p q ≡ true) ↔ ReachedPair task start p q) where
  pub pairs_exclude : (HasPairsOf r task.goal → ⊥) → PairsExcludeFrom task start
  pairs_exclude out =
      elim (pair_cases r task.goal task.goal) [
        | inl all ↦ absurd (out all)
        | inr w ↦ (
          w.0,
          w.1,
          w.2,
          w.3,
          λ reached. both_ways (r w.0 w.1) w.4
              ((each w.0 w.1).1 reached),
        )
      ]

  pub pairs_reached : HasPairsOf r task.goal → PairsExcludeFrom task start → ⊥
  pairs_reached all (p, q, at, also, out) =
      out ((each p q).0
      (All-contains (λ y. r p y ≡ true) task.goal q
      (All-contains (λ x. All (λ y. r x y ≡ true) task.goal) task.goal p all at) also))
