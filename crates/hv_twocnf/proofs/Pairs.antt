-- Clauses of at most two different literals.
use Rattle.std.proofs.Common.{◌≡◌, ◌⊎◌, ◌∙◌, ◌&&◌, ◌==◌, Bool, true, false, not, List, get_or, inl}
use Rattle.std.proofs.Common.{inr, sym, ap, ◌≤◌, ◌∷◌, [], arith, length, refl}
use Rattle.std.proofs.Math.Bool.{beq, not-not}
use Rattle.std.proofs.lemmas.Bool.{and_from, and_parts}
use Rattle.std.proofs.lemmas.Bool.Decides.{Decides-eqb}
use Rattle.std.proofs.lemmas.List.Elements.{All-cons, All-contains, All-nil, Contains-get_or}
use Rattle.std.specs.Cmp.{booleans_Decides}
use Rattle.std.specs.List.{All, Contains}
use Rattle.std.specs.Prelude.{◌↔◌}
use Rattle.hv_sets.specs.declared.literal.Literal.{Literal}
use Rattle.hv_sets.specs.Kinds.{IsTwoClause}
use Rattle.hv_indexes.specs.Implied.{IsEither}

-- whether the two literals are one
abbrev pub is_same_literal : Literal → Literal → Bool
is_same_literal l k = (l.atom == k.atom) && beq l.positive k.positive

pub same_if : (l k : Literal) → false ≡ not (is_same_literal l k) → l ≡ k
same_if l k e =
    let yes : is_same_literal l k ≡ true = sym (not-not (is_same_literal l k)) ∙ ap not (sym e) in
    let parts = and_parts (l.atom == k.atom) (beq l.positive k.positive) yes in
    let same_atom = (Decides-eqb l.atom k.atom).0 parts.0 in
    let same_sign = (booleans_Decides l.positive k.positive).0 parts.1 in
    λ i. record { atom = same_atom i; positive = same_sign i }

pub differ_if : (l k : Literal) → true ≡ not (is_same_literal l k) → l ≡ k → ⊥
differ_if l k e same =
    let yes : is_same_literal l k ≡ true =
    and_from (l.atom == k.atom) (beq l.positive k.positive)
    ((Decides-eqb l.atom k.atom).1 (ap (λ m. m.atom) same))
    ((booleans_Decides l.positive k.positive).1 (ap (λ m. m.positive) same)) in
    let clash : true ≡ false = e ∙ ap not yes in
    absurd cc

-- a clause whose literals are all one is a clause of two literals
pub two_of_one : (clause : List Literal) (first : Literal) → All (λ (l : Literal). l ≡ first) clause
    → IsTwoClause clause
two_of_one clause first all l k m in_l in_k in_m =
    let a = All-contains (λ (l : Literal). l ≡ first) clause l all in_l in
    let b = All-contains (λ (l : Literal). l ≡ first) clause k all in_k in
    inl cc

-- of three literals that are each one of two, two are the same
same_two : (first second l k m : Literal) → IsEither first second l → IsEither first second k
    → IsEither first second m
    → (l ≡ k) ⊎ ((k ≡ m) ⊎ (l ≡ m))
same_two first second l k m (inl a) (inl b) c = inl cc
same_two first second l k m (inr a) (inr b) c = inl cc
same_two first second l k m (inl a) (inr b) (inl c) = inr (inr cc)
same_two first second l k m (inl a) (inr b) (inr c) = inr (inl cc)
same_two first second l k m (inr a) (inl b) (inl c) = inr (inl cc)
same_two first second l k m (inr a) (inl b) (inr c) = inr (inr cc)

-- a clause with two different literals is a clause of two literals where it has no others
pub two_of_pair : (clause : List Literal) (first second : Literal) → Contains clause first
    → Contains clause second
    → (second ≡ first → ⊥) → All (IsEither first second) clause ↔ IsTwoClause clause
two_of_pair clause first second in_first in_second differ = (
  λ all l k m in_l in_k in_m.
      same_two first second l k m (All-contains (IsEither first second) clause l all in_l)
      (All-contains (IsEither first second) clause k all in_k)
      (All-contains (IsEither first second) clause m all in_m),
  λ two k d within.
      elim (two first second (get_or clause k d) in_first in_second
      (Contains-get_or clause k d within)) [
        | inl same ↦ absurd (differ (sym same))
        | inr rest ↦ elim rest [ inl e ↦ inr (sym e) | inr e ↦ inl (sym e) ]
      ],
)

-- a clause of at most two literals, counted as they stand, is one of two literals
pub two_of_few : (clause : List Literal) → length clause ≤ 2 → IsTwoClause clause
two_of_few [] few =
    two_of_one [] (record { atom = 0; positive = false })
    (All-nil (λ (l : Literal). l ≡ record { atom = 0; positive = false }))
two_of_few (a ∷ []) few =
    two_of_one (a ∷ []) a
    (All-cons (λ (l : Literal). l ≡ a) a [] refl (All-nil (λ (l : Literal). l ≡ a)))
two_of_few (a ∷ b ∷ []) few = λ l k m in_l in_k in_m.
    let either : All (IsEither a b) (a ∷ b ∷ []) =
    All-cons (IsEither a b) a (b ∷ []) (inl refl)
    (All-cons (IsEither a b) b [] (inr refl) (All-nil (IsEither a b))) in
    same_two a b l k m (All-contains (IsEither a b) (a ∷ b ∷ []) l either in_l)
    (All-contains (IsEither a b) (a ∷ b ∷ []) k either in_k)
    (All-contains (IsEither a b) (a ∷ b ∷ []) m either in_m)
two_of_few (a ∷ b ∷ c ∷ rest) few = absurd (omega (arith, few))
