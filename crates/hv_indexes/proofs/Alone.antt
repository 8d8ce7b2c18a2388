-- Where a literal stands that is the one clause, and what that implies.
use Rattle.std.proofs.Common.{◌≡◌, ◌∙◌, ◌<◌, ◌≤◌, ℕ, suc, zero, Bool, true, false, List, [], ◌∷◌}
use Rattle.std.proofs.Common.{length, get_or, refl, sym, ap, arith, subst, inl, inr}
use Rattle.std.proofs.lemmas.List.Elements.{All-cons, All-nil}
use Rattle.std.specs.List.{All, Contains}
use Rattle.hv_sets.specs.declared.literal.Literal.{Literal}
use Rattle.hv_sets.specs.Cubes.{SpeakBelow, opposite}
use Rattle.hv_indexes.specs.declared.occurrences.Occurrences.TheVariants as O
use Rattle.hv_indexes.specs.declared.rows.RowHead.{RowHead}
use Rattle.hv_indexes.specs.Implied.{ImpliesNumber, IsEither, IsPair, literal_number}
use Rattle.hv_indexes.specs.Occurrences.{AreOccurrences, IsIndexOf, IsPartner}
use Rattle.hv_indexes.specs.Occurrences.{lone_rows, no_literal, no_rows}
use Rattle.hv_indexes.specs.Places.{clause_at}
use Rattle.hv_indexes.specs.Rows.{AreHeads, AreRows, HasHeads, IsEndBefore, IsPartOf, IsRow, code}
use Rattle.hv_indexes.specs.Rows.{key_of, place_of_code}
use Rattle.hv_indexes.specs.Working.Implied.{IsImpliedCode}
use Rattle.hv_indexes.specs.Working.Rows.{ListsCodes}
use Rattle.hv_indexes.specs.Working.Signed.{IsSignedCode}
use Rattle.hv_indexes.proofs.Gathered.{signed_coded}
use Rattle.hv_indexes.proofs.Implying.{implied_coded, number_fits, pair_codes}
use Rattle.hv_indexes.proofs.Keyed.{coded_size, key_of-code, number_of-code, row_from}

-- what is in a list of one
only_in : {A : Type 0} (a x : A) → Contains (a ∷ []) x → a ≡ x
only_in a x (zero, less, is) = is
only_in a x (suc i, less, is) = absurd (omega arith)

none_in : (x : ℕ) → Contains [] x → ⊥
none_in x has = omega (arith, has.1)

-- beside the literal of a clause of one there is none
none_beside : (clause : List Literal) (own : Literal) → length clause ≡ 1
    → IsPartner clause own no_literal
none_beside clause own one = record {
  pair = λ some. absurd (some refl);
  two = λ other e. absurd (elim e [
    | inl before ↦ let size = ap length before in omega arith
    | inr behind ↦ let size = ap length behind in omega arith
  ]);
}

-- the head of a key whose numbers begin at the first place
abbrev pub own_head : ℕ → RowHead
own_head key = record { key = key; start = 0 }

-- one code has one head
module _ (key number : ℕ) (small : number < 4294967296) where
  first_end : IsEndBefore key (code key number ∷ []) 0
  first_end = record {
    within = omega arith;
    before = λ k less. absurd (omega arith);
    after = λ k late less. after k less;
  }
    where
      after : (k : ℕ) → k < length (code key number ∷ [])
          → key ≤ key_of (get_or (code key number ∷ []) k 0)
      after zero less = let same = key_of-code key number small in omega arith
      after (suc k) less = absurd (omega arith)

  heads_rise : (i j : ℕ) (d : RowHead) → i ≤ j → j < length (own_head key ∷ [])
      → (get_or (own_head key ∷ []) i d).key ≤ (get_or (own_head key ∷ []) j d).key
  heads_rise zero zero d upto less = omega arith
  heads_rise zero (suc j) d upto less = absurd (omega arith)
  heads_rise (suc i) zero d upto less = absurd (omega arith)
  heads_rise (suc i) (suc j) d upto less = absurd (omega arith)

  heads_each : (k : ℕ) (d : RowHead) → k < length (own_head key ∷ [])
      → IsEndBefore (get_or (own_head key ∷ []) k d).key (code key number ∷ [])
      (get_or (own_head key ∷ []) k d).start
  heads_each zero d less = first_end
  heads_each (suc k) d less = absurd (omega arith)

  heads_all : (k : ℕ) → k < length (code key number ∷ [])
      → (j : ℕ) × (j < length (own_head key ∷ []))
      × ((d : RowHead) → (get_or (own_head key ∷ []) j d).key
      ≡ key_of (get_or (code key number ∷ []) k 0))
  heads_all zero less = (0, omega arith, λ d. sym (key_of-code key number small))
  heads_all (suc k) less = absurd (omega arith)

  one_headed : AreHeads (code key number ∷ []) (own_head key ∷ [])
  one_headed = record { rises = heads_rise; each = heads_each; all = heads_all }

-- no code has no head
none_headed : AreHeads [] []
none_headed = record {
  rises = λ i j d upto less. absurd (omega arith);
  each = λ k d less. absurd (omega arith);
  all = λ k less. absurd (omega arith);
}

-- where there is no code, no literal of the sign stands
pub none_rows : (sign : Bool) (clauses : List (List Literal)) → length clauses ≤ 4294967296
    → ListsCodes (λ k. IsSignedCode sign (get_or clauses k []) k) (length clauses) []
    → AreOccurrences sign clauses no_rows
none_rows sign clauses few listed = record {
  codes = [];
  heads = none_headed;
  coded = signed_coded sign clauses [] [] [] few listed (λ k less. absurd (omega arith))
      (λ c. (λ has. has, λ has. has)) refl;
  partners = λ k less. absurd (omega arith);
}

-- the codes of the literals of this sign
abbrev pub ListsSigned : Bool → List (List Literal) → List ℕ → Type 0
ListsSigned sign clauses =
    ListsCodes (λ k. IsSignedCode sign (get_or clauses k []) k) (length clauses)

pub empty_rows : (sign : Bool) (clauses : List (List Literal)) (codes : List ℕ)
    → length clauses ≤ 4294967296 → ListsSigned sign clauses codes → codes ≡ []
    → AreOccurrences sign clauses no_rows
empty_rows sign clauses codes few listed none =
    none_rows sign clauses few (subst (ListsSigned sign clauses) none listed)

-- where there is none of either sign, no literal stands anywhere
pub index_of_none : (clauses : List (List Literal)) (negative positive : List ℕ)
    → length clauses ≤ 4294967296 → ListsSigned false clauses negative
    → ListsSigned true clauses positive → negative ≡ [] → positive ≡ []
    → IsIndexOf clauses O.Nowhere
index_of_none clauses negative positive few out inside no_out no_inside true =
    empty_rows true clauses positive few inside no_inside
index_of_none clauses negative positive few out inside no_out no_inside false =
    empty_rows false clauses negative few out no_out

module _ (literal : Literal) where
  abbrev pub clauses : List (List Literal)
  clauses = (literal ∷ []) ∷ []

  abbrev own_code : ℕ
  own_code = code literal.atom 0

  -- its code is that of the literals of its sign
  own_listed : ListsCodes (λ k. IsSignedCode literal.positive (get_or clauses k []) k) 1
      (own_code ∷ [])
  own_listed c = (
    λ has. (
      0,
      omega arith,
      (literal.atom, (0, omega arith, refl), sym (only_in own_code c has)),
    ),
    λ found. there found.0 found.1 found.2.0 found.2.1 found.2.2,
  )
    where
      there : (place : ℕ) → place < 1 → (atom : ℕ)
          → Contains (get_or clauses place [])
          (record { atom = atom; positive = literal.positive })
          → c ≡ code atom place → Contains (own_code ∷ []) c
      there zero less atom has is = (
        0,
        omega arith,
        ap (λ (l : Literal). code l.atom 0)
            (only_in literal (record { atom = atom; positive = literal.positive }) has) ∙ sym is,
      )
      there (suc k) less atom has is = absurd (omega arith)

  -- none is listed of the other sign
  none_listed : (sign : Bool) → (literal.positive ≡ sign → ⊥)
      → ListsCodes (λ k. IsSignedCode sign (get_or clauses k []) k) 1 []
  none_listed sign other c = (
    λ has. absurd (none_in c has),
    λ found. absurd (nowhere found.0 found.1 found.2.0 found.2.1),
  )
    where
      nowhere : (place : ℕ) → place < 1 → (atom : ℕ)
          → Contains (get_or clauses place []) (record { atom = atom; positive = sign }) → ⊥
      nowhere zero less atom has =
          other (ap (λ (l : Literal). l.positive)
          (only_in literal (record { atom = atom; positive = sign }) has))
      nowhere (suc k) less atom has = omega arith

  own_beside : (k : ℕ) → k < length (own_code ∷ [])
      → IsPartner (clause_at clauses (place_of_code (get_or (own_code ∷ []) k 0)))
      (record { atom = key_of (get_or (own_code ∷ []) k 0); positive = literal.positive })
      no_literal
  own_beside zero less =
      none_beside (clause_at clauses (place_of_code own_code))
      (record { atom = key_of own_code; positive = literal.positive })
      (ap (λ n. length (clause_at clauses n)) (number_of-code literal.atom 0 (omega arith)))
  own_beside (suc k) less = absurd (omega arith)

  -- the lists of its sign
  own_rows : AreOccurrences literal.positive clauses (lone_rows (own_head literal.atom ∷ []))
  own_rows = record {
    codes = own_code ∷ [];
    heads = one_headed literal.atom 0 (omega arith);
    coded = signed_coded literal.positive clauses (own_code ∷ []) (own_code ∷ []) (0 ∷ [])
        (omega arith) own_listed (λ k less. absurd (omega arith)) (λ c. (λ has. has, λ has. has))
        (ap (λ n. n ∷ []) (sym (number_of-code literal.atom 0 (omega arith))));
    partners = λ k less. own_beside k less;
  }

  -- and of the other one
  other_rows : (sign : Bool) → (literal.positive ≡ sign → ⊥) → AreOccurrences sign clauses no_rows
  other_rows sign other = none_rows sign clauses (omega arith) (none_listed sign other)

  pub index_of_positive : literal.positive ≡ true
      → IsIndexOf clauses (O.Positive (own_head literal.atom ∷ []))
  index_of_positive is true =
      subst (λ s. AreOccurrences s clauses (lone_rows (own_head literal.atom ∷ []))) is own_rows
  index_of_positive is false = other_rows false (λ e. cc)

  pub index_of_negative : literal.positive ≡ false
      → IsIndexOf clauses (O.Negative (own_head literal.atom ∷ []))
  index_of_negative is true = other_rows true (λ e. cc)
  index_of_negative is false =
      subst (λ s. AreOccurrences s clauses (lone_rows (own_head literal.atom ∷ []))) is own_rows

  -- What it implies: its opposite implies it, and nothing else does anything.
  module _ (below : literal.atom < 2147483648) where
    pair : IsPair (literal ∷ []) literal literal
    pair = record {
      has_first = (0, omega arith, refl);
      has_second = (0, omega arith, refl);
      only = All-cons (IsEither literal literal) literal [] (inl refl)
          (All-nil (IsEither literal literal));
    }

    abbrev implied_code : ℕ
    implied_code = code (literal_number (opposite literal)) (literal_number literal)

    fits : literal_number literal < 4294967296
    fits = number_fits literal below

    speak : All (SpeakBelow 2147483648) clauses
    speak = All-cons (SpeakBelow 2147483648) (literal ∷ []) []
        (All-cons (λ (l : Literal). l.atom < 2147483648) literal [] below
        (All-nil (λ (l : Literal). l.atom < 2147483648)))
        (All-nil (SpeakBelow 2147483648))

    implied_listed : ListsCodes (λ k. IsImpliedCode (get_or clauses k [])) 1 (implied_code ∷ [])
    implied_listed c = (
      λ has. (
        0,
        omega arith,
        (pair_codes (literal ∷ []) literal literal pair c).1
            (inl (sym (only_in implied_code c has))),
      ),
      λ found. there found.0 found.1 found.2,
    )
      where
        there : (place : ℕ) → place < 1 → IsImpliedCode (get_or clauses place []) c
            → Contains (implied_code ∷ []) c
        there zero less is = elim ((pair_codes (literal ∷ []) literal literal pair c).0 is) [
          | inl e ↦ (0, omega arith, sym e)
          | inr e ↦ (0, omega arith, sym e)
        ]
        there (suc k) less is = absurd (omega arith)

    pub lone_implied : AreRows (ImpliesNumber clauses)
        (own_head (literal_number (opposite literal)) ∷ []) (literal_number literal ∷ [])
    lone_implied = record {
      codes = implied_code ∷ [];
      headed = one_headed (literal_number (opposite literal)) (literal_number literal) fits;
      coded = implied_coded clauses (implied_code ∷ []) (implied_code ∷ [])
          (literal_number literal ∷ []) speak implied_listed (λ k less. absurd (omega arith))
          (λ c. (λ has. has, λ has. has)) (ap (λ n. n ∷ []) (sym (number_of-code
          (literal_number (opposite literal)) (literal_number literal) fits)));
    }

-- where there is no code, nothing is implied
pub none_implied : (clauses : List (List Literal)) → All (SpeakBelow 2147483648) clauses
    → ListsCodes (λ k. IsImpliedCode (get_or clauses k [])) (length clauses) []
    → AreRows (ImpliesNumber clauses) [] []
none_implied clauses below listed = record {
  codes = [];
  headed = none_headed;
  coded = implied_coded clauses [] [] [] below listed (λ k less. absurd (omega arith))
      (λ c. (λ has. has, λ has. has)) refl;
}

pub empty_implied : (clauses : List (List Literal)) (codes : List ℕ)
    → All (SpeakBelow 2147483648) clauses
    → ListsCodes (λ k. IsImpliedCode (get_or clauses k [])) (length clauses) codes → codes ≡ []
    → AreRows (ImpliesNumber clauses) [] []
empty_implied clauses codes below listed none =
    none_implied clauses below
    (subst (ListsCodes (λ k. IsImpliedCode (get_or clauses k [])) (length clauses)) none listed)

-- no clauses imply nothing
pub nothing_implied : AreRows (ImpliesNumber []) [] []
nothing_implied = none_implied [] (All-nil (SpeakBelow 2147483648))
    (λ c. (λ has. absurd (none_in c has), λ found. absurd (omega (arith, found.1))))

-- The part of the numbers that is lent is what the literal of this number implies.
module _ (clauses : List (List Literal)) (heads : List RowHead) (numbers : List ℕ)
    (rows : AreRows (ImpliesNumber clauses) heads numbers) where
  pub headed_rows : HasHeads heads (length numbers)
  headed_rows = (
    rows.codes,
    rows.headed,
    coded_size (ImpliesNumber clauses) rows.codes numbers rows.coded,
  )

  pub implied_row : (key : ℕ) (part : List ℕ)
      → ((codes : List ℕ) → AreHeads codes heads → length codes ≡ length numbers
      → IsPartOf key codes numbers part) → IsRow (ImpliesNumber clauses) key part
  implied_row key part is =
      row_from (ImpliesNumber clauses) rows.codes numbers key part rows.coded
      (is rows.codes rows.headed
      (coded_size (ImpliesNumber clauses) rows.codes numbers rows.coded))
