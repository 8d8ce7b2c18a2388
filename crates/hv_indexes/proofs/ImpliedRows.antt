-- What literals imply, by where literals stand.
use Rattle.std.proofs.Common.{◌≡◌, ◌∙◌, ◌+◌, ◌<◌, ◌≤◌, ℕ, Bool, true, false, List, []}
use Rattle.std.proofs.Common.{length, get_or, refl, sym, ap, arith, subst, inl, inr}
use Rattle.std.proofs.lemmas.Bool.{cases_lt}
use Rattle.std.proofs.lemmas.List.{get_or_default}
use Rattle.std.specs.List.{Contains}
use Rattle.hv_sets.specs.declared.literal.Literal.{Literal}
use Rattle.hv_sets.specs.Cubes.{opposite}
use Rattle.hv_indexes.specs.declared.rows.RowHead.{RowHead}
use Rattle.hv_indexes.specs.Places.{clause_at}
use Rattle.hv_indexes.specs.Implied.{IsPair, literal_number}
use Rattle.hv_indexes.specs.Working.Implied.{IsCodedIn, IsImpliedCode, PutsImplied, PutsSigned}
use Rattle.hv_indexes.specs.Working.Implied.{PutsUpto, pair_code}
use Rattle.hv_indexes.specs.Occurrences.{AreOccurrences, SignedRows}
use Rattle.hv_indexes.specs.Working.Rows.{ListsCodes, PutsCodes}
use Rattle.hv_indexes.specs.Rows.{code, key_of}
use Rattle.hv_indexes.specs.Signed.{StandsAs}
use Rattle.hv_indexes.proofs.Implying.{opposite_twice, pair_codes, pair_ways, turned_pair}
use Rattle.hv_indexes.proofs.Keyed.{key_of-code}

-- a clause has one literal beside another one
one_beside : (clause : List Literal) (own other first : Literal) → IsPair clause own other
    → IsPair clause first own → first ≡ other
one_beside clause own other first pair is = elim (pair_ways clause own other first own pair is) [
  | inl e ↦ e.0 ∙ e.1
  | inr e ↦ e.0
]

-- the code of a clause of two literals, whichever of these is implied
pair_coded : (turned : Bool) (clause : List Literal) (own other : Literal) → IsPair clause own other
    → IsImpliedCode clause (pair_code turned other own)
pair_coded true clause own other pair =
    (pair_codes clause own other pair (pair_code true other own)).1 (inl refl)
pair_coded false clause own other pair =
    (pair_codes clause own other pair (pair_code false other own)).1 (inr refl)

module _ (turned : Bool) (clauses : List (List Literal)) (own : Literal) (place : ℕ)
    (less : place < length clauses) (old new : List ℕ) where
  -- a clause of two literals
  pub puts_pair : (other : Literal) → IsPair (clause_at clauses place) own other
      → PutsCodes (λ c. c ≡ pair_code turned other own) old new
      → PutsImplied turned clauses (λ p. p ≡ place) own old new
  puts_pair other pair puts = record {
    sound = λ c has. elim ((puts c).0 has) [
      | inl was ↦ inl was
      | inr e ↦ inr (
        place,
        less,
        subst (IsImpliedCode (clause_at clauses place)) (sym e)
            (pair_coded turned (clause_at clauses place) own other pair),
      )
    ];
    keeps = λ c has. (puts c).1 (inl has);
    whole = λ p first here is.
        let same = one_beside (clause_at clauses place) own other first pair
        (subst (λ k. IsPair (clause_at clauses k) first own) here is) in
        (puts (pair_code turned first own)).1
        (inr (ap (λ (l : Literal). pair_code turned l own) same));
  }

  -- any clause
  pub puts_clause : PutsCodes (IsImpliedCode (clause_at clauses place)) old new
      → PutsImplied turned clauses (λ p. p ≡ place) own old new
  puts_clause puts = record {
    sound = λ c has. elim ((puts c).0 has) [
      | inl was ↦ inl was
      | inr is ↦ inr (place, less, is)
    ];
    keeps = λ c has. (puts c).1 (inl has);
    whole = λ p first here is.
        let pair = turned_pair (clause_at clauses place) first own
        (subst (λ k. IsPair (clause_at clauses k) first own) here is) in
        (puts (pair_code turned first own)).1
        (inr (pair_coded turned (clause_at clauses place) own first pair));
  }

module _ (turned : Bool) (clauses : List (List Literal)) (own : Literal) (places : List ℕ) where
  abbrev pub Early : ℕ → ℕ → Type 0
  Early index p = (k : ℕ) × (k < index) × (get_or places k 0 ≡ p)

  -- one clause more
  pub standing_more : (index : ℕ) (old middle new : List ℕ)
      → PutsImplied turned clauses (Early index) own old middle
      → PutsImplied turned clauses (λ p. p ≡ get_or places index 0) own middle new
      → PutsImplied turned clauses (Early (index + 1)) own old new
  standing_more index old middle new before here = record {
    sound = λ c has. elim (here.sound c has) [
      | inl was ↦ before.sound c was
      | inr some ↦ inr some
    ];
    keeps = λ c has. here.keeps c (before.keeps c has);
    whole = λ p first among is. elim (cases_lt among.0 index) [
      | inl early ↦ here.keeps (pair_code turned first own)
          (before.whole p first (among.0, early, among.2) is)
      | inr late ↦
          let e : among.0 ≡ index = omega (arith, among.1, late) in
          here.whole p first (sym among.2 ∙ ap (λ k. get_or places k 0) e) is
    ];
  }

  pub standing_all : (index : ℕ) (old new : List ℕ) → length places ≤ index
      → PutsImplied turned clauses (Early index) own old new
      → PutsImplied turned clauses (Contains places) own old new
  standing_all index old new past puts = record {
    sound = puts.sound;
    keeps = puts.keeps;
    whole = λ p first has is.
        let within = has.1 in
        puts.whole p first (
          has.0,
          omega (arith, within, past),
          get_or_default places has.0 0 p within ∙ has.2,
        ) is;
  }

  -- the same for other words of where the literal stands
  pub standing_as : (old new : List ℕ) (Stands : ℕ → Type 0)
      → ((p : ℕ) → Stands p → Contains places p)
      → PutsImplied turned clauses (Contains places) own old new
      → PutsImplied turned clauses Stands own old new
  standing_as old new Stands has puts = record {
    sound = puts.sound;
    keeps = puts.keeps;
    whole = λ p first stands is. puts.whole p first (has p stands) is;
  }

-- where a literal stands, its atom has a head
head_of_atom : (sign : Bool) (clauses : List (List Literal)) (listed : SignedRows)
    → AreOccurrences sign clauses listed → (atom place : ℕ) → StandsAs sign clauses atom place
    → (j : ℕ) × (j < length listed.heads)
    × ((d : RowHead) → (get_or listed.heads j d).key ≡ atom)
head_of_atom sign clauses listed are atom place stands =
    let few = are.coded.small atom place stands in
    let has = (are.coded.has (code atom place)).1 (atom, place, refl, few, stands) in
    let found = are.heads.all has.0 has.1 in (
      found.0,
      found.1,
      λ d. found.2 d
          ∙ (ap key_of (get_or_default are.codes has.0 0 (code atom place) has.1 ∙ has.2)
          ∙ key_of-code atom place few),
    )

module _ (turned : Bool) (clauses : List (List Literal)) (sign : Bool)
    (heads : List RowHead) where
  -- one head more
  pub heads_more : (at key : ℕ) (old middle new : List ℕ)
      → ((d : RowHead) → (get_or heads at d).key ≡ key)
      → PutsUpto turned clauses sign heads at old middle
      → PutsImplied turned clauses (StandsAs sign clauses key)
      (record { atom = key; positive = sign }) middle new
      → PutsUpto turned clauses sign heads (at + 1) old new
  heads_more at key old middle new is before here = record {
    sound = λ c has. elim (here.sound c has) [
      | inl was ↦ before.sound c was
      | inr some ↦ inr some
    ];
    keeps = λ c has. here.keeps c (before.keeps c has);
    whole = λ k atom place first less same stands pair. elim (cases_lt k at) [
      | inl early ↦ here.keeps (pair_code turned first (record { atom = atom; positive = sign }))
          (before.whole k atom place first early same stands pair)
      | inr late ↦
          let e : k ≡ at = omega (arith, less, late) in
          let none : RowHead = record { key = 0; start = 0 } in
          let one : key ≡ atom = sym (is none)
          ∙ (ap (λ j. (get_or heads j none).key) (sym e) ∙ same none) in
          subst (λ a. IsCodedIn turned first (record { atom = a; positive = sign }) new) one
          (here.whole place first (subst (λ a. StandsAs sign clauses a place) (sym one) stands)
          (subst (λ a. IsPair (clause_at clauses place) first
          (record { atom = a; positive = sign })) (sym one) pair))
    ];
  }

-- all heads
pub heads_all : (turned sign : Bool) (clauses : List (List Literal)) (listed : SignedRows)
    → AreOccurrences sign clauses listed → (at : ℕ) (old new : List ℕ)
    → length listed.heads ≤ at
    → PutsUpto turned clauses sign listed.heads at old new
    → PutsSigned turned clauses sign old new
heads_all turned sign clauses listed are at old new past puts = record {
  sound = puts.sound;
  keeps = puts.keeps;
  whole = λ place atom first stands pair.
      let found = head_of_atom sign clauses listed are atom place stands in
      puts.whole found.0 atom place first (omega (arith, found.1, past)) found.2 stands pair;
}

-- both signs
pub signed_all : (turned : Bool) (clauses : List (List Literal)) (old middle new : List ℕ)
    → old ≡ [] → PutsSigned turned clauses false old middle
    → PutsSigned turned clauses true middle new
    → ListsCodes (λ k. IsImpliedCode (get_or clauses k [])) (length clauses) new
signed_all turned clauses old middle new none out inside c = (
  λ has. elim (inside.sound c has) [
    | inl was ↦ elim (out.sound c was) [
      | inl first ↦
          let empty = subst (λ xs. Contains xs c) none first in
          absurd (omega (arith, empty.1))
      | inr some ↦ some
    ]
    | inr some ↦ some
  ],
  λ found. there turned refl found.0 found.1 found.2.0 found.2.1 found.2.2 found.2.3,
)
  where
    coded : (sign : Bool) (place atom : ℕ) (first : Literal) → StandsAs sign clauses atom place
        → IsPair (clause_at clauses place) first (record { atom = atom; positive = sign })
        → IsCodedIn turned first (record { atom = atom; positive = sign }) new
    coded true place atom first stands pair = inside.whole place atom first stands pair
    coded false place atom first stands pair =
        inside.keeps (pair_code turned first (record { atom = atom; positive = false }))
        (out.whole place atom first stands pair)

    there : (way : Bool) → turned ≡ way → (place : ℕ) → place < length clauses
        → (literal other : Literal) → IsPair (clause_at clauses place) (opposite literal) other
        → c ≡ code (literal_number literal) (literal_number other) → Contains new c
    there false way place less literal other pair is =
        let own = coded other.positive place other.atom (opposite literal)
        (record { among = less; has = pair.has_second }) pair in
        let same = subst (λ w. Contains new (pair_code w (opposite literal) other)) way own in
        subst (Contains new) (ap (λ (l : Literal). code (literal_number l) (literal_number other))
        (opposite_twice literal) ∙ sym is) same
    there true way place less literal other pair is =
        let first : Literal = opposite literal in
        let own = coded first.positive place first.atom other
        (record { among = less; has = pair.has_first })
        (turned_pair (clause_at clauses place) first other pair) in
        let same = subst (λ w. Contains new (pair_code w other first)) way own in
        subst (Contains new) (ap (λ (l : Literal). code (literal_number l) (literal_number other))
        (opposite_twice literal) ∙ sym is) same
