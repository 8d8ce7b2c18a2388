-- The laws of clauses of two literals: the short ones are such clauses, and a settled one that is
-- true in a state stays true when the marks are put over it, since where two literals are open
-- there is no third.
use Rattle.std.proofs.Common.{◌≡◌, ◌∙◌, ℕ, true, List, length, None, subst, inl, inr}
use Rattle.std.proofs.lemmas.List.Folds.{Any-from_list_any}
use Rattle.std.specs.List.{Contains}
use Rattle.std.specs.Prelude.{Bool}
use Rattle.hv_sets.specs.declared.literal.Literal.{Literal}
use Rattle.hv_sets.specs.Cubes.{SpeakBelow}
use Rattle.hv_sets.specs.Kinds.{IsTwoClause}
use Rattle.hv_sets.specs.Truth.{in_clause, in_literal}
use Rattle.hv_formula.specs.Kinded.{IsShort}
use Rattle.hv_propagation.specs.Marks.{over}
use Rattle.hv_propagation.specs.Units.{IsSettled, value_of}
use Rattle.hv_formula.proofs.Kinded.{below, clause_true, known_true, open_over}

pub short_are_two : (clause : List Literal) → IsShort clause → IsTwoClause clause
short_are_two clause short l k m cl ck cm = inl (short l k cl ck)

pub two_completes : (effect marks : List ℕ) (clause : List Literal)
    → SpeakBelow (length marks) clause
    → (state : List Bool) → length marks ≡ length state → IsTwoClause clause
    → IsSettled effect marks clause → in_clause clause (over effect state) ≡ true
    → in_clause clause (over effect (over marks state)) ≡ true
two_completes effect marks clause speaks state size two settled e =
    elim settled [
      | inl it ↦
          clause_true clause it.0 (over effect (over marks state)) it.1
          (known_true effect marks it.0 state size it.2
          (below effect marks clause speaks it.0 it.1))
      | inr pair ↦
          let found = Any-from_list_any (λ l. in_literal l (over effect state)) clause e in
          let l = found.1 in
          let c : Contains clause l = (found.0, found.2, found.3) in
          let none : value_of effect marks l ≡ None =
          third pair.0 pair.1 l pair.2 pair.3 c pair.4 pair.5 pair.6 in
          clause_true clause l (over effect (over marks state)) c
          (open_over effect marks l state size none (below effect marks clause speaks l c)
          ∙ found.4)
    ]
  where
    third : (l k m : Literal) → Contains clause l → Contains clause k → Contains clause m
        → (l ≡ k → ⊥)
        → value_of effect marks l ≡ None
        → value_of effect marks k ≡ None → value_of effect marks m ≡ None
    third l k m cl ck cm differ open_l open_k =
        elim (two l k m cl ck cm) [
          | inl same ↦ absurd (differ same)
          | inr (inl same) ↦ subst (λ x. value_of effect marks x ≡ None) same open_k
          | inr (inr same) ↦ subst (λ x. value_of effect marks x ≡ None) same open_l
        ]
