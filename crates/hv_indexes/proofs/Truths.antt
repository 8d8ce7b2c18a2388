-- When clauses and formulas are true.
use Rattle.std.proofs.Common.{◌≡◌, ◌∙◌, ◌<◌, ◌++◌, ◌&&◌, ◌||◌, ℕ, zero, suc, Bool, true, false}
use Rattle.std.proofs.Common.{cond, not, List, [], ◌∷◌, length, get_or, refl, sym, ap, ap₂, arith}
use Rattle.std.proofs.lemmas.Bool.{and_parts, false_from_ne_true}
use Rattle.std.specs.List.{Contains}
use Rattle.hv_sets.specs.declared.literal.Literal.{Literal}
use Rattle.hv_sets.specs.Truth.{in_clause, in_clauses, in_cube, in_literal}
use Rattle.hv_sets.specs.Cubes.{opposite}
use Rattle.hv_task.specs.State.{has_atom}
use Rattle.hv_indexes.specs.Places.{clause_at}

-- of a literal and its opposite one is true
pub opposite_is : (l : Literal) (s : List Bool) → in_literal (opposite l) s ≡ not (in_literal l s)
opposite_is l s = by l.positive (has_atom s l.atom)
  where
    by : (sign b : Bool) → cond (not sign) b (not b) ≡ not (cond sign b (not b))
    by true b = refl
    by false true = refl
    by false false = refl

module _ (s : List Bool) where
  clause_by : (clause : List Literal) (k : ℕ) (d : Literal) → k < length clause
      → in_literal (get_or clause k d) s ≡ true → in_clause clause s ≡ true
  clause_by [] k d less h = absurd (omega (arith, less))
  clause_by (l ∷ ls) zero d less h = ap (λ b. b || in_clause ls s) h
  clause_by (l ∷ ls) (suc k) d less h = by (in_literal l s) (in_clause ls s) (clause_by ls k d
      (omega (arith, less)) h)
    where
      by : (a b : Bool) → b ≡ true → (a || b) ≡ true
      by true b e = refl
      by false b e = e

  -- a clause with a literal that is true is true
  pub clause_has : (clause : List Literal) (l : Literal) → Contains clause l
      → in_literal l s ≡ true → in_clause clause s ≡ true
  clause_has clause l has h =
      clause_by clause (has.0) l (has.1) (ap (λ x. in_literal x s) (has.2) ∙ h)

  pub clauses_by : (clauses : List (List Literal))
      → ((p : ℕ) → p < length clauses → in_clause (clause_at clauses p) s ≡ true)
      → in_clauses clauses s ≡ true
  clauses_by [] all = refl
  clauses_by (c ∷ cs) all =
      ap₂ (λ a b. a && b) (all 0 (omega arith))
      (clauses_by cs (λ p less. all (suc p) (omega (arith, less))))

  -- a state of a cube is in each prefix of it
  pub push_front : (ls : List Literal) (l : Literal) → in_cube (ls ++ l ∷ []) s ≡ true
      → in_cube ls s ≡ true
  push_front [] l h = refl
  push_front (x ∷ xs) l h =
      let parts = and_parts (in_literal x s) (in_cube (xs ++ l ∷ []) s) h in
      ap₂ (λ a b. a && b) (parts.0) (push_front xs l (parts.1))

  -- and its last literal is true in it
  pub push_last : (ls : List Literal) (l : Literal) → in_cube (ls ++ l ∷ []) s ≡ true
      → in_literal l s ≡ true
  push_last [] l h = (and_parts (in_literal l s) true h).0
  push_last (x ∷ xs) l h =
      push_last xs l ((and_parts (in_literal x s) (in_cube (xs ++ l ∷ []) s) h).1)

-- each clause of a formula that a state is in is true
pub each_clause : (s : List Bool) (clauses : List (List Literal)) (p : ℕ) → p < length clauses
    → in_clauses clauses s ≡ true → in_clause (clause_at clauses p) s ≡ true
each_clause s [] p less h = absurd (omega (arith, less))
each_clause s (c ∷ cs) zero less h = (and_parts (in_clause c s) (in_clauses cs s) h).0
each_clause s (c ∷ cs) (suc p) less h =
    each_clause s cs p (omega (arith, less)) ((and_parts (in_clause c s) (in_clauses cs s) h).1)

pub one_false : (s : List Bool) (clauses : List (List Literal)) (p : ℕ) → p < length clauses
    → in_clause (clause_at clauses p) s ≡ false → in_clauses clauses s ≡ false
one_false s clauses p less out = false_from_ne_true (in_clauses clauses s) (λ h.
    let f : true ≡ false = sym (each_clause s clauses p less h) ∙ out in absurd cc)
