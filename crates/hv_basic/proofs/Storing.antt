-- The stores denote the formulas of the lines.
use Rattle.std.proofs.Common.{◌≡◌, ℕ, ◌<◌, ◌∙◌, Bool, List, [], Option, Some, None, length, map}
use Rattle.std.proofs.Common.{get_or, refl, sym, ap, subst, arith}
use Rattle.std.proofs.lemmas.List.{get_or-map, length-map}
use Rattle.std.proofs.lemmas.Option.{slice_get-map, unwrap_or-slice_get}
use Rattle.std.specs.List.{slice_get}
use Rattle.std.specs.Option.{option_map, unwrap_or}
use Rattle.hv_task.specs.Strips.{Strips}
use Rattle.hv_sets.specs.Cost.{ClausesPass, StatesPass}
use Rattle.hv_sets.specs.Query.{is_clash}
use Rattle.hv_sets.specs.Truth.{in_clauses, in_states}
use Rattle.hv_sets.specs.declared.literal.Literal.{Literal}
use Rattle.hv_sets.specs.declared.query.Query.{Query}
use Rattle.hv_formula.specs.Clausal.{FormulaState}
use Rattle.hv_clauses.specs.Store.{tests_of, sizes_of, AreOver, clauses_found, formula_at}
use Rattle.hv_explicit.specs.ListedStates.{ListedStates, count_found, in_found, in_set}
use Rattle.hv_explicit.specs.ListedStates.{states_listed}
use Rattle.hv_explicit.specs.ListedStates.{AreListsOver as AreListedOver}
use Rattle.hv_lines.specs.Verdicts.{IsDecided}
use Rattle.hv_lines.specs.declared.verdict.Verdict.{Verdict}
use Rattle.hv_basic.specs.Stores.{formula, listing}
use Rattle.hv_basic.specs.Working.Deciding.{AreAllReady}

module _ (n : ℕ) (xs : List (List (List Literal))) where
  clauses_in : (found : Option (List (List Literal)))
      → clauses_found (option_map (formula n) found) ≡ unwrap_or found []
  clauses_in None = refl
  clauses_in (Some clauses) = refl

  pub formulas_are : formula_at (map (formula n) xs) ≡ (λ k. get_or xs k [])
  formulas_are = λ i k. (ap clauses_found (slice_get-map (formula n) xs k)
      ∙ (clauses_in (slice_get xs k) ∙ unwrap_or-slice_get xs k [])) i

  are_over : AreOver (map (formula n) xs) n
  are_over k d below =
      let size = length-map xs (formula n) in
      let within : k < length xs = omega (arith, below, size) in
      ap (λ (f : FormulaState). f.atoms) (get_or-map (formula n) xs k [] d within)

  module _ (sets : List FormulaState) (is : sets ≡ map (formula n) xs) where
    pub sets_over : AreOver sets n
    sets_over = subst (λ s. AreOver s n) (sym is) are_over

    -- the queries can be asked of the store
    pub sets_ready : (count actions : ℕ) (query : Query) (asked : List (Option ℕ))
        → count ≡ length xs → AreAllReady count actions query asked
        → AreAllReady (length sets) actions query asked
    sets_ready count actions query asked same =
        subst (λ k. AreAllReady k actions query asked)
        (same ∙ sym (ap length is ∙ length-map xs (formula n)))

    -- their verdict is that of the formulas
    pub sets_decided : (task : Strips) (budget count : ℕ) (queries : List Query)
        (verdict : Verdict)
        → IsDecided (λ q. ClausesPass task (sizes_of (formula_at sets)) q budget)
        (is_clash task (tests_of (formula_at sets))) count queries verdict
        → IsDecided (λ q. ClausesPass task (λ k. length (get_or xs k [])) q budget)
        (is_clash task (λ k s. in_clauses (get_or xs k []) s)) count queries verdict
    sets_decided task budget count queries verdict =
        subst (λ (f : ℕ → List (List Literal)). IsDecided
        (λ q. ClausesPass task (λ k. length (f k)) q budget)
        (is_clash task (λ k s. in_clauses (f k) s)) count queries verdict)
        (ap formula_at is ∙ formulas_are)

module _ (n : ℕ) (xs : List (List (List ℕ))) where
  in_listed : (found : Option (List (List ℕ))) (state : List Bool)
      → in_found (option_map (listing n) found) state ≡ in_states n (unwrap_or found []) state
  in_listed None state = refl
  in_listed (Some states) state = refl

  count_listed : (found : Option (List (List ℕ)))
      → count_found (option_map (listing n) found) ≡ length (unwrap_or found [])
  count_listed None = refl
  count_listed (Some states) = refl

  sets_are : in_set (map (listing n) xs) ≡ (λ k state. in_states n (get_or xs k []) state)
  sets_are = λ i k state.
      (ap (λ o. in_found o state) (slice_get-map (listing n) xs k)
      ∙ (in_listed (slice_get xs k) state ∙ ap
      (λ ss. in_states n ss state) (unwrap_or-slice_get xs k []))) i

  counts_are : states_listed (map (listing n) xs) ≡ (λ k. length (get_or xs k []))
  counts_are = λ i k.
      (ap count_found (slice_get-map (listing n) xs k)
      ∙ (count_listed (slice_get xs k) ∙ ap length (unwrap_or-slice_get xs k []))) i

  pub listed_over : AreListedOver (map (listing n) xs) n
  listed_over k d below =
      let size = length-map xs (listing n) in
      let within : k < length xs = omega (arith, below, size) in
      ap (λ (l : ListedStates). l.atoms) (get_or-map (listing n) xs k [] d within)

  pub listed_decided : (task : Strips) (budget count : ℕ) (queries : List Query) (verdict : Verdict)
      (store : List ListedStates)
      → store ≡ map (listing n) xs
      → IsDecided (λ q. StatesPass (states_listed store) q budget) (is_clash task (in_set store))
      count queries verdict
      → IsDecided (λ q. StatesPass (λ k. length (get_or xs k [])) q budget)
      (is_clash task (λ k s. in_states n (get_or xs k []) s)) count queries verdict
  listed_decided task budget count queries verdict store is decided =
      subst (λ (h : ℕ → List Bool → Bool). IsDecided
      (λ q. StatesPass (λ k. length (get_or xs k [])) q budget) (is_clash task h) count queries
      verdict)
      (ap in_set is ∙ sets_are)
      (subst (λ (f : ℕ → ℕ). IsDecided (λ q. StatesPass f q budget) (is_clash task (in_set store))
      count queries verdict)
      (ap states_listed is ∙ counts_are) decided)
