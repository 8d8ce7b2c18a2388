-- The walk over the clauses of a formula in another order.
use Rattle.std.proofs.Common.{◌≡◌, ◌∙◌, ◌+◌, ◌<◌, ◌&&◌, ◌||◌, ℕ, zero, suc, Bool}
use Rattle.std.proofs.Common.{true, false, not, List, [], ◌∷◌, length, drop, get_or}
use Rattle.std.proofs.Common.{refl, sym, ap, ap₂, arith}
use Rattle.std.proofs.lemmas.List.{drop_more, get_or-map, length-map}
use Rattle.std.specs.List.{Contains}
use Rattle.hv_sets.specs.declared.literal.Literal.{Literal}
use Rattle.hv_sets.specs.Truth.{in_clause, in_clauses, in_cube}
use Rattle.hv_sets.specs.Walks.{in_cubes}
use Rattle.hv_indexes.specs.Places.{clause_at}
use Rattle.hv_paths.specs.Along.{LeavesRest}
use Rattle.hv_indexes.specs.Orders.{OrdersUpto, place_in}
use Rattle.hv_formula.specs.Walked.{opposed_in, opposed}
use Rattle.hv_indexes.proofs.Truths.{each_clause}
use Rattle.hv_formula.proofs.Walked.{opposed_is}

module _ (s : List Bool) where
  first_false : (clauses : List (List Literal)) → in_clauses clauses s ≡ false
      → (p : ℕ) × (p < length clauses) × (in_clause (clause_at clauses p) s ≡ false)
  first_false [] h = let f : true ≡ false = h in absurd cc
  first_false (c ∷ cs) h = by (in_clause c s) refl (λ e. first_false cs e)
    where
      by : (b : Bool) → in_clause c s ≡ b
          → (in_clauses cs s ≡ false
          → (p : ℕ) × (p < length cs) × (in_clause (clause_at cs p) s ≡ false))
          → (p : ℕ) × (p < length (c ∷ cs)) × (in_clause (clause_at (c ∷ cs) p) s ≡ false)
      by false e rec = (0, omega arith, e)
      by true e rec =
          let w = rec (sym (ap (λ b. b && in_clauses cs s) e) ∙ h) in
          (suc (w.0), omega (arith, w.1), w.2)

  module _ (clauses : List (List Literal)) where
    none_in : (order : List ℕ)
        → ((c : ℕ) → Contains order c → in_clause (clause_at clauses (place_in c)) s ≡ true)
        → in_cubes (opposed_in clauses order) s ≡ false
    none_in [] all = refl
    none_in (c ∷ cs) all = ap₂ (λ a b. a || b)
        (opposed_is (clause_at clauses (place_in c)) s ∙ ap not (all c (0, omega arith, refl)))
        (none_in cs (λ d has. all d (suc (has.0), omega (arith, has.1), has.2)))

    some_in : (order : List ℕ) (k d : ℕ) → k < length order
        → in_clause (clause_at clauses (place_in (get_or order k d))) s ≡ false
        → in_cubes (opposed_in clauses order) s ≡ true
    some_in [] k d less out = absurd (omega (arith, less))
    some_in (c ∷ cs) zero d less out =
        ap (λ b. b || in_cubes (opposed_in clauses cs) s)
        (opposed_is (clause_at clauses (place_in c)) s ∙ ap not out)
    some_in (c ∷ cs) (suc k) d less out =
        by (in_cube (opposed (clause_at clauses (place_in c))) s)
        (in_cubes (opposed_in clauses cs) s) (some_in cs k d (omega (arith, less)) out)
      where
        by : (a b : Bool) → b ≡ true → (a || b) ≡ true
        by true b e = refl
        by false b e = e

    pub ordered_are : (order : List ℕ) → OrdersUpto (length clauses) order
        → in_cubes (opposed_in clauses order) s ≡ not (in_clauses clauses s)
    ordered_are order is = by (in_clauses clauses s) refl
      where
        by : (b : Bool) → in_clauses clauses s ≡ b
            → in_cubes (opposed_in clauses order) s ≡ not (in_clauses clauses s)
        by true e =
            none_in order (λ c has. each_clause s clauses (place_in c) (is.only c has) e)
            ∙ ap not (sym e)
        by false e =
            let w = first_false clauses e in
            let c = is.each (w.0) (w.1) in
            some_in order ((c.1).0) (c.0) ((c.1).1)
            (ap (λ d. in_clause (clause_at clauses (place_in d)) s) ((c.1).2)
            ∙ (ap (λ p. in_clause (clause_at clauses p) s) (c.2) ∙ w.2))
            ∙ ap not (sym e)

-- the next clause is taken
pub ordered_next : (clauses : List (List Literal)) (order : List ℕ) (k c : ℕ) (cube : List Literal)
    → k < length order → get_or order k c ≡ c
    → ((s : List Bool) → in_cube cube s ≡ in_cube (opposed (clause_at clauses (place_in c))) s)
    → LeavesRest cube (drop k (opposed_in clauses order)) (drop (k + 1) (opposed_in clauses order))
ordered_next clauses order k c cube less at same = record {
  count = ap length next ∙ omega arith;
  states = λ s. ap (λ cubes. in_cubes cubes s) next
      ∙ ap (λ b. b || in_cubes (drop (k + 1) (opposed_in clauses order)) s) (sym (same s));
}
  where
    few : k < length (opposed_in clauses order)
    few = omega (arith, less, length-map order (λ c. opposed (clause_at clauses (place_in c))))

    next : drop k (opposed_in clauses order)
        ≡ opposed (clause_at clauses (place_in c)) ∷ drop (k + 1) (opposed_in clauses order)
    next =
        drop_more (opposed_in clauses order) k [] few
        ∙ ap (λ x. x ∷ drop (k + 1) (opposed_in clauses order))
        (get_or-map (λ c. opposed (clause_at clauses (place_in c))) order k c [] less
        ∙ ap (λ c. opposed (clause_at clauses (place_in c))) at)
