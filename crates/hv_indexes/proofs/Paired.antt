-- Why the entries of a clause of two tell which literal is beside another one.
use Rattle.std.proofs.Common.{◌≡◌, ℕ, zero, suc, ◌<◌, ◌∙◌, ◌⊎◌, List, [], ◌∷◌, length, get_or, refl}
use Rattle.std.proofs.Common.{sym, ap, subst, arith, inl, inr}
use Rattle.std.proofs.lemmas.List.Elements.{Contains-get_or}
use Rattle.hv_sets.specs.declared.literal.Literal.{Literal}
use Rattle.hv_indexes.specs.declared.partners.EntryPair.{EntryPair}
use Rattle.hv_indexes.specs.Implied.{IsEither, IsPair}
use Rattle.hv_indexes.specs.Occurrences.{IsPartner, literal_of, no_literal}
use Rattle.hv_indexes.specs.Working.Pairs.{IsEntryPair}

-- a list of two is that of its elements
pub two_are : (clause : List Literal) (d : Literal) → length clause ≡ 2
    → clause ≡ get_or clause 0 d ∷ get_or clause 1 d ∷ []
two_are [] d is = absurd (omega arith)
two_are (a ∷ []) d is = absurd (omega arith)
two_are (a ∷ b ∷ []) d is = refl
two_are (a ∷ b ∷ c ∷ more) d is = absurd (omega arith)

either : (a b : Literal) (k : ℕ) (d : Literal) → k < length (a ∷ b ∷ [])
    → IsEither a b (get_or (a ∷ b ∷ []) k d)
either a b zero d less = inl refl
either a b (suc zero) d less = inr refl
either a b (suc (suc k)) d less = absurd (omega arith)

pair_from : (clause : List Literal) (a b : Literal) → clause ≡ a ∷ b ∷ [] → IsPair clause a b
pair_from clause a b is = subst (λ ls. IsPair ls a b) (sym is) (record {
  has_first = Contains-get_or (a ∷ b ∷ []) 0 a (omega arith);
  has_second = Contains-get_or (a ∷ b ∷ []) 1 a (omega arith);
  only = either a b;
})

pair_turned : (clause : List Literal) (a b : Literal) → IsPair clause a b → IsPair clause b a
pair_turned clause a b pair = record {
  has_first = pair.has_second;
  has_second = pair.has_first;
  only = λ k d less. elim (pair.only k d less) [ inl one ↦ inr one | inr other ↦ inl other ];
}

-- the literals of a clause of two, written in two ways
module _ (clause : List Literal) (a b c d : Literal) (one : clause ≡ a ∷ b ∷ [])
    (other : clause ≡ c ∷ d ∷ []) where
  same_first : a ≡ c
  same_first = ap (λ ls. get_or ls 0 a) (sym one ∙ other)

  same_second : b ≡ d
  same_second = ap (λ ls. get_or ls 1 a) (sym one ∙ other)

-- the clause has two literals
two_long : (clause : List Literal) (own other : Literal)
    → (clause ≡ own ∷ other ∷ []) ⊎ (clause ≡ other ∷ own ∷ []) → length clause ≡ 2
two_long clause own other is =
    elim is [ inl before ↦ ap length before | inr behind ↦ ap length behind ]

module _ (clause : List Literal) (pair : EntryPair) (own : Literal)
    (is : IsEntryPair clause pair) where
  -- beside the first one
  pub beside_first : literal_of pair.first ≡ own → IsPartner clause own pair.second
  beside_first same = elim is [
    | inl two ↦ record {
      pair = λ some. subst (λ l. IsPair clause l (literal_of pair.second)) same
          (pair_from clause (literal_of pair.first) (literal_of pair.second) two);
      two = λ other e. elim e [
        | inl before ↦ same_second clause (literal_of pair.first) (literal_of pair.second) own other
            two before
        | inr behind ↦
            same_second clause (literal_of pair.first) (literal_of pair.second) other own two behind
            ∙ (sym same ∙ same_first clause (literal_of pair.first) (literal_of pair.second) other
            own two behind)
      ];
    }
    | inr none ↦ record {
      pair = λ some. absurd (some none.1);
      two = λ other e. absurd (none.2 (two_long clause own other e));
    }
  ]

  -- beside the second one
  pub beside_second : literal_of pair.second ≡ own → IsPartner clause own pair.first
  beside_second same = elim is [
    | inl two ↦ record {
      pair = λ some. pair_turned clause (literal_of pair.first) own
          (subst (λ l. IsPair clause (literal_of pair.first) l) same
          (pair_from clause (literal_of pair.first) (literal_of pair.second) two));
      two = λ other e. elim e [
        | inl before ↦
            same_first clause (literal_of pair.first) (literal_of pair.second) own other two before
            ∙ (sym same ∙ same_second clause (literal_of pair.first) (literal_of pair.second) own
            other two before)
        | inr behind ↦ same_first clause (literal_of pair.first) (literal_of pair.second) other own
            two behind
      ];
    }
    | inr none ↦ record {
      pair = λ some. absurd (some none.0);
      two = λ other e. absurd (none.2 (two_long clause own other e));
    }
  ]

  -- beside neither
  pub beside_none : (literal_of pair.first ≡ own → ⊥) → (literal_of pair.second ≡ own → ⊥)
      → IsPartner clause own no_literal
  beside_none first second = record {
    pair = λ some. absurd (some refl);
    two = λ other e. elim is [
      | inl two ↦ elim e [
        | inl before ↦ absurd (first (same_first clause (literal_of pair.first)
            (literal_of pair.second) own other two before))
        | inr behind ↦ absurd (second (same_second clause (literal_of pair.first)
            (literal_of pair.second) other own two behind))
      ]
      | inr none ↦ absurd (none.2 (two_long clause own other e))
    ];
  }
