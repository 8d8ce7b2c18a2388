use Rattle.std.proofs.Common.{◌≡◌, ◌<◌, ◌≤◌, ◌∷◌, [], ℕ, List, suc, arith, get_or, length, refl}
use Rattle.std.proofs.Common.{inl, inr, subst, sym, take}
use Rattle.std.proofs.lemmas.Bool.{cases_lt}
use Rattle.hv_explicit.specs.Working.Holders.{IsStateIndex}
use Rattle.hv_explicit.specs.Working.Listing.{AreFirsts, first_at}
use Rattle.hv_explicit.proofs.state_index.firsts_in.Goals as goal

-- of at most two states the places are 0 and 1
pair_firsts : (states : List (List ℕ)) → length states ≤ 2
    → AreFirsts states (take (length states) (0 ∷ 1 ∷ [])) (length states)
pair_firsts [] few = record {
  within = λ e less. let none : e < 0 = less in absurd (omega arith);
  each = λ k less. let none : k < 0 = less in absurd (omega arith);
}
pair_firsts (a ∷ []) few = record {
  within = λ e less.
      let below : e < 1 = less in
      let first : 0 ≡ e = omega arith in
      subst (λ n. get_or (0 ∷ []) n 0 < 1) first (omega arith);
  each = λ k less.
      let below : k < 1 = less in
      let first : 0 ≡ k = omega arith in
      subst (λ n. (e : ℕ) × (e < 1) × (first_at (a ∷ []) (0 ∷ []) e ≡ get_or (a ∷ []) n []))
      first (0, omega arith, refl);
}
pair_firsts (a ∷ b ∷ []) few = record {
  within = λ e less.
      let below : e < 2 = less in
      elim (cases_lt e 1) [
        | inl before ↦ let first : 0 ≡ e = omega arith in
            subst (λ n. get_or (0 ∷ 1 ∷ []) n 0 < 2) first (omega arith)
        | inr upto ↦ let second : 1 ≡ e = omega arith in
            subst (λ n. get_or (0 ∷ 1 ∷ []) n 0 < 2) second (omega arith)
      ];
  each = λ k less.
      let below : k < 2 = less in
      elim (cases_lt k 1) [
        | inl before ↦ let first : 0 ≡ k = omega arith in
            subst (λ n. (e : ℕ) × (e < 2) × (first_at (a ∷ b ∷ []) (0 ∷ 1 ∷ []) e
            ≡ get_or (a ∷ b ∷ []) n [])) first (0, omega arith, refl)
        | inr upto ↦ let second : 1 ≡ k = omega arith in
            subst (λ n. (e : ℕ) × (e < 2) × (first_at (a ∷ b ∷ []) (0 ∷ 1 ∷ []) e
            ≡ get_or (a ∷ b ∷ []) n [])) second (1, omega arith, refl)
      ];
}
pair_firsts (a ∷ b ∷ c ∷ rest) few =
    let more : suc (suc (suc (length rest))) ≤ 2 = few in absurd (omega arith)

pub returns-in-Pair : goal.returns-in-Pair
returns-in-Pair c =
    let states = c.args.states.now in
    let pair = subst (IsStateIndex states) c.in-Pair.is c.requires in
    subst (λ n. AreFirsts states (take n c.in-Pair.places) (length states)) (sym c.len.ensures.len)
    (subst (λ xs. AreFirsts states (take (length states) xs) (length states)) (sym pair.1)
    (pair_firsts states pair.0))
