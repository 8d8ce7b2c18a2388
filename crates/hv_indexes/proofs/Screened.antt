-- Screens that are exact.
use Rattle.std.proofs.Common.{◌≡◌, ◌∙◌, ◌<◌, ◌||◌, ℕ, suc, Bool, true, false, not}
use Rattle.std.proofs.Common.{List, [], ◌∷◌, length, refl, sym, ap, ap₂, arith, subst, inl, inr}
use Rattle.std.proofs.lemmas.Bool.{cases_eq}
use Rattle.std.proofs.lemmas.List.{get_or-set_other, length-set}
use Rattle.std.proofs.Math.Bool.{beq}
use Rattle.std.specs.List.{All}
use Rattle.std.specs.Prelude.{slice_set}
use Rattle.hv_task.specs.State.{has_atom}
use Rattle.hv_sets.specs.declared.literal.Literal.{Literal}
use Rattle.hv_sets.specs.Truth.{in_clause, in_literal}
use Rattle.hv_indexes.specs.declared.screens.Screen.{Screen}
use Rattle.hv_indexes.specs.Implied.{IsEither}
use Rattle.hv_indexes.specs.Mates.{IsExact}
use Rattle.hv_indexes.specs.Places.{clause_at}
use Rattle.hv_indexes.specs.Working.Mates.{IsDecidedAs}

-- two signs that are tested to be one
pub one_sign : (a b : Bool) → beq a b ≡ true → a ≡ b
one_sign true true e = refl
one_sign true false e = sym e
one_sign false true e = e
one_sign false false e = refl

-- a literal is false where its atom has the other sign
pub false_as : (sign : Bool) (p : ℕ) (s : List Bool) → has_atom s p ≡ not sign
    → in_literal (record { atom = p; positive = sign }) s ≡ false
false_as true p s e = e
false_as false p s e = ap not e

-- a clause is false whose literals are these two, where both are false
pub either_false : (first second : Literal) (s : List Bool) (clause : List Literal)
    → in_literal first s ≡ false → in_literal second s ≡ false
    → All (IsEither first second) clause → in_clause clause s ≡ false
either_false first second s [] one other all = refl
either_false first second s (l ∷ ls) one other all =
    ap₂ (λ a b. a || b) (here (all 0 l (omega arith)))
    (either_false first second s ls one other (λ k d less. all (suc k) d (omega (arith, less))))
  where
    here : IsEither first second l → in_literal l s ≡ false
    here either = elim either [
      | inl e ↦ ap (λ x. in_literal x s) e ∙ one
      | inr e ↦ ap (λ x. in_literal x s) e ∙ other
    ]

-- an exact screen stays so with a literal of a clause of two
pub exact_more : (clauses : List (List Literal)) (c : ℕ) (own : Literal) (sign was is : Bool)
    (flags : List Bool) (atom : ℕ) → c < length clauses → (is ≡ true → was ≡ true)
    → (is ≡ true → All (IsEither own (record { atom = atom; positive = sign }))
    (clause_at clauses c))
    → IsExact clauses (record { own = own; sign = sign; exact = was; flags = flags })
    → IsExact clauses
    (record { own = own; sign = sign; exact = is; flags = slice_set flags atom sign })
exact_more clauses c own sign was is flags atom less before here old on q in_it flag =
    let size = length-set flags atom sign in
    elim (cases_eq atom q) [
      | inl e ↦ (
        c,
        less,
        subst (λ n. All (IsEither own (record { atom = n; positive = sign }))
            (clause_at clauses c)) e (here on),
      )
      | inr e ↦ old (before on) q (omega (arith, in_it, size))
          (sym (get_or-set_other flags atom q sign false (λ f. e (sym f))) ∙ flag)
    ]

-- in a state in which the own literal of an exact screen is false, and one more of its literals,
-- some clause is false
pub exact_false : (screen : Screen) (state : List Bool) (q : ℕ)
    → length screen.flags ≡ length state → q < length state
    → has_atom screen.flags q ≡ screen.sign → has_atom state q ≡ not screen.sign
    → in_literal screen.own state ≡ false → screen.exact ≡ true
    → IsDecidedAs false screen state
exact_false screen state q size less flag out own on clauses exact =
    let found = exact on q (omega (arith, size, less)) flag in (
      found.0,
      found.1,
      either_false screen.own (record { atom = q; positive = screen.sign }) state
          (clause_at clauses found.0) own (false_as screen.sign q state out) found.2,
    )
