-- Going through the queries of a statement.
use Rattle.std.proofs.Common.{◌≡◌, ℕ, ◌<◌, ◌≤◌, ◌+◌, ◌∙◌, Bool, true, List, Option, Some, None}
use Rattle.std.proofs.Common.{length, map, refl, sym, ap, subst, inl, inr, arith}
use Rattle.std.proofs.lemmas.Bool.{cases_lt}
use Rattle.std.proofs.lemmas.Option.{same_Some, slice_get-map, slice_get_within}
use Rattle.std.specs.List.{slice_get}
use Rattle.std.specs.Option.{option_map}
use Rattle.hv_sets.specs.Cost.{IsAnswer}
use Rattle.hv_sets.specs.Room.{KeepsLengths}
use Rattle.hv_sets.specs.declared.finding.Finding.{Finding}
use Rattle.hv_sets.specs.declared.finding.Finding.TheVariants as F
use Rattle.hv_sets.specs.declared.query.Query.{Query}
use Rattle.hv_sets.specs.declared.scratch.Scratch.{Scratch}
use Rattle.hv_lines.specs.Verdicts.{IsDecisive, DecidesNothing}
use Rattle.hv_basic.specs.Working.Asked.{with_action}

-- lengths that didn't fall twice didn't fall
pub lengths_kept : (old middle new : Scratch) → KeepsLengths old middle → KeepsLengths middle new
    → KeepsLengths old new
lengths_kept old middle new first second = record {
  marks = omega (arith, first.marks, second.marks);
  counts = omega (arith, first.counts, second.counts);
  queue = omega (arith, first.queue, second.queue);
  choice = omega (arith, first.choice, second.choice);
}

module _ (Passes : Query → Type 0) (clash : Query → List Bool → Bool) (atoms : ℕ) (query : Query)
    (actions : List (Option ℕ)) where
  -- each query before this place decides nothing
  abbrev pub SettledBelow : ℕ → Type 0
  SettledBelow bound =
      (place : ℕ) (action : Option ℕ) → place < bound → slice_get actions place ≡ Some action
      → DecidesNothing Passes clash atoms (with_action query action)

  pub settled_more : (i : ℕ) (action : Option ℕ) → SettledBelow i
      → slice_get actions i ≡ Some action
      → DecidesNothing Passes clash atoms (with_action query action) → SettledBelow (i + 1)
  settled_more i action before at here place other less found =
      elim (cases_lt place i) [
        | inl earlier ↦ before place other earlier found
        | inr upto ↦
            let same : i ≡ place = omega (arith, upto, less) in
            let one : action ≡ other = same_Some action other
            (sym at ∙ (ap (slice_get actions) same ∙ found)) in
            subst (λ a. DecidesNothing Passes clash atoms (with_action query a)) one here
      ]

  got : (found : Option (Option ℕ)) (q : Query) → option_map (with_action query) found ≡ Some q
      → (action : Option ℕ) × (found ≡ Some action) × (with_action query action ≡ q)
  got None q e = absurd (cc (e))
  got (Some action) q e = (action, refl, same_Some (with_action query action) q e)

  pub first_at : (i : ℕ) (action : Option ℕ) → SettledBelow i → slice_get actions i ≡ Some action
      → IsDecisive Passes clash atoms (map (with_action query) actions) (with_action query action)
  first_at i action before at = (
    i,
    slice_get-map (with_action query) actions i ∙ ap (λ x. option_map (with_action query) x) at,
    λ lower earlier less found.
        let w = got (slice_get actions lower) earlier
        (sym (slice_get-map (with_action query) actions lower) ∙ found) in
        subst (DecidesNothing Passes clash atoms) w.2 (before lower w.0 less w.1),
  )

  pub all_settled : (i : ℕ) → length actions ≤ i → SettledBelow i → (place : ℕ) (q : Query)
      → slice_get (map (with_action query) actions) place ≡ Some q
      → DecidesNothing Passes clash atoms q
  all_settled i size before place q found =
      let w = got (slice_get actions place) q
      (sym (slice_get-map (with_action query) actions place) ∙ found) in
      let within = slice_get_within actions place w.0 w.1 in
      subst (DecidesNothing Passes clash atoms) w.2
      (before place w.0 (omega (arith, size, within)) w.1)

-- a query with the operands of another
pub same_query : (old query : Query) (action : Option ℕ) → query.positive ≡ old.positive
    → query.negative ≡ old.negative
    → with_action query action ≡ with_action old action
same_query old query action positive negative = λ i. record
    { positive = positive i; negative = negative i; action = action }

module _ (Passes : Query → Type 0) (clash : Query → List Bool → Bool) (atoms : ℕ)
    (asked query : Query) (same : asked ≡ query) (state : List Bool) (found : Finding) where
  abbrev Answers : Query → Finding → Type 0
  Answers q f = IsAnswer f (Passes q) atoms (clash q) state

  pub over_here : IsAnswer found (Passes asked) atoms (clash asked) state → found ≡ F.Over
      → Passes query
  over_here answer is = subst (λ f. Answers query f) is (subst (λ q. Answers q found) same answer)

  pub clash_here : IsAnswer found (Passes asked) atoms (clash asked) state → found ≡ F.Clash
      → (Passes query → ⊥) × (length state ≡ atoms) × (clash query state ≡ true)
  clash_here answer is = subst (λ f. Answers query f) is (subst (λ q. Answers q found) same answer)

  pub settled_here : IsAnswer found (Passes asked) atoms (clash asked) state → found ≡ F.Empty
      → DecidesNothing Passes clash atoms query
  settled_here answer is = subst (λ f. Answers query f) is
      (subst (λ q. Answers q found) same answer)
