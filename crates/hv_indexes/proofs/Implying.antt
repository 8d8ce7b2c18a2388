-- What literals imply by clauses of two.
use Rattle.std.proofs.Common.{◌≡◌, ℕ, ◌+◌, ◌*◌, ◌<◌, ◌∙◌, ◌↔◌, ◌⊎◌, Bool, true, false, cond, List}
use Rattle.std.proofs.Common.{[], length, get_or, map, refl, sym, ap, ap₂, subst, arith, inl, inr}
use Rattle.std.proofs.Math.Bool.{not-not}
use Rattle.std.proofs.lemmas.List.Elements.{All-contains, Contains-get_or}
use Rattle.std.specs.List.{All, Contains}
use Rattle.std.specs.List.Sorted.{IsStrictlyIncreasing}
use Rattle.hv_sets.specs.declared.literal.Literal.{Literal}
use Rattle.hv_sets.specs.Cubes.{SpeakBelow, opposite}
use Rattle.hv_indexes.specs.Implied.{AreImplied, Implies, IsEither, IsPair, literal_number}
use Rattle.hv_indexes.specs.Implied.{ImpliesNumber}
use Rattle.hv_indexes.specs.Working.Implied.{IsImpliedCode}
use Rattle.hv_indexes.specs.Rows.{IsRow, AreCoded, code, place_of_code}
use Rattle.hv_indexes.specs.Working.Rows.{ListsCodes}

pub opposite_twice : (l : Literal) → opposite (opposite l) ≡ l
opposite_twice l = let sign = not-not l.positive in λ i. record { atom = l.atom; positive = sign i }

-- of three that are one of two, the first two are one, or the third is one of them
among : (a b x y l : Literal) → IsEither a b x → IsEither a b y → IsEither a b l
    → (y ≡ x) ⊎ IsEither x y l
among a b x y l (inl xa) (inl ya) el = inl (ya ∙ sym xa)
among a b x y l (inl xa) (inr yb) (inl la) = inr (inl (la ∙ sym xa))
among a b x y l (inl xa) (inr yb) (inr lb) = inr (inr (lb ∙ sym yb))
among a b x y l (inr xb) (inl ya) (inl la) = inr (inr (la ∙ sym ya))
among a b x y l (inr xb) (inl ya) (inr lb) = inr (inl (lb ∙ sym xb))
among a b x y l (inr xb) (inr yb) el = inl (yb ∙ sym xb)

-- a clause that has more than these two literals has more than any two
pub pair_none : (clause : List Literal) (first second : Literal) → Contains clause first
    → Contains clause second
    → (second ≡ first → (l : Literal) → Contains clause l → l ≡ first)
    → (All (IsEither first second) clause → ⊥)
    → (a b : Literal) → IsPair clause a b → ⊥
pair_none clause first second has_first has_second alone more a b pair =
    more (λ k d within.
    let l = get_or clause k d in
    let has = Contains-get_or clause k d within in
    elim (among a b first second l (All-contains (IsEither a b) clause first pair.only has_first)
    (All-contains (IsEither a b) clause second pair.only has_second)
    (All-contains (IsEither a b) clause l pair.only has)) [
      | inl one ↦ inl (alone one l has)
      | inr either ↦ either
    ])

-- a clause has its two literals in two orders
ways : (a b x y : Literal) → IsEither a b x → IsEither a b y → IsEither x y a → IsEither x y b
    → ((x ≡ a) × (y ≡ b)) ⊎ ((x ≡ b) × (y ≡ a))
ways a b x y (inl xa) (inr yb) ea eb = inl (xa, yb)
ways a b x y (inr xb) (inl ya) ea eb = inr (xb, ya)
ways a b x y (inl xa) (inl ya) ea (inl bx) = inl (xa, ya ∙ (sym xa ∙ sym bx))
ways a b x y (inl xa) (inl ya) ea (inr by) = inl (xa, sym by)
ways a b x y (inr xb) (inr yb) (inl ax) eb = inr (xb, yb ∙ (sym xb ∙ sym ax))
ways a b x y (inr xb) (inr yb) (inr ay) eb = inr (xb, sym ay)

pub pair_ways : (clause : List Literal) (a b x y : Literal) → IsPair clause a b → IsPair clause x y
    → ((x ≡ a) × (y ≡ b)) ⊎ ((x ≡ b) × (y ≡ a))
pair_ways clause a b x y first second =
    ways a b x y (All-contains (IsEither a b) clause x first.only second.has_first)
    (All-contains (IsEither a b) clause y first.only second.has_second)
    (All-contains (IsEither x y) clause a second.only first.has_first)
    (All-contains (IsEither x y) clause b second.only first.has_second)

pub turned_pair : (clause : List Literal) (a b : Literal) → IsPair clause a b → IsPair clause b a
turned_pair clause a b pair = record {
  has_first = pair.has_second;
  has_second = pair.has_first;
  only = λ k d within. elim (pair.only k d within) [ inl e ↦ inr e | inr e ↦ inl e ];
}

-- the codes of a clause of two literals
pub pair_codes : (clause : List Literal) (a b : Literal) → IsPair clause a b → (c : ℕ)
    → IsImpliedCode clause c
    ↔ ((c ≡ code (literal_number (opposite a)) (literal_number b))
    ⊎ (c ≡ code (literal_number (opposite b)) (literal_number a)))
pair_codes clause a b pair c = (
  λ is.
      let l = is.0 in
      let back : (x : Literal) → opposite l ≡ x → l ≡ opposite x = λ x e. sym (opposite_twice l)
      ∙ ap opposite e in
      elim (pair_ways clause a b (opposite l) is.1 pair is.2) [
        | inl same ↦ inl (is.3 ∙ ap₂ (λ (x y : Literal). code (literal_number x) (literal_number y))
            (back a same.0) same.1)
        | inr same ↦ inr (is.3 ∙ ap₂ (λ (x y : Literal). code (literal_number x) (literal_number y))
            (back b same.0) same.1)
      ],
  λ either. elim either [
    | inl e ↦ (opposite a, b, subst (λ x. IsPair clause x b) (sym (opposite_twice a)) pair, e)
    | inr e ↦ (
      opposite b,
      a,
      subst (λ x. IsPair clause x a) (sym (opposite_twice b))
          (turned_pair clause a b pair),
      e,
    )
  ],
)

pub none_codes : (clause : List Literal) → ((a b : Literal) → IsPair clause a b → ⊥) → (c : ℕ)
    → IsImpliedCode clause c → ⊥
none_codes clause none c is = none (opposite is.0) is.1 is.2

pub number_fits : (l : Literal) → l.atom < 2147483648 → literal_number l < 4294967296
number_fits l small = by l.positive
  where
    by : (sign : Bool) → 2 * l.atom + cond sign 0 1 < 4294967296
    by true = omega arith
    by false = omega arith

-- all codes, in order
pub implied_coded : (clauses : List (List Literal)) (listed sorted numbers : List ℕ)
    → All (SpeakBelow 2147483648) clauses
    → ListsCodes (λ k. IsImpliedCode (get_or clauses k [])) (length clauses) listed
    → IsStrictlyIncreasing sorted
    → ((c : ℕ) → Contains sorted c ↔ Contains listed c) → numbers ≡ map place_of_code sorted
    → AreCoded (ImpliesNumber clauses) sorted numbers
implied_coded clauses listed sorted numbers speak lists rises has are = record {
  rises = rises;
  has = λ c. (
    λ there.
        let found = (lists c).0 ((has c).0 there) in
        let l = found.2.0 in
        let m = found.2.1 in (
          literal_number l,
          literal_number m,
          found.2.3,
          fits found.0 found.1 l m found.2.2,
          (l, m, refl, refl, (found.0, found.1, found.2.2)),
        ),
    λ pair.
        let is = pair.4 in
        let which = is.4 in
        (has c).1 ((lists c).1 (
          which.0,
          which.1,
          (is.0, is.1, which.2, pair.2 ∙ ap₂ code is.2 is.3),
        )),
  );
  small = λ key number is. let which = is.4 in
      subst (λ n. n < 4294967296) (sym is.3) (fits which.0 which.1 is.0 is.1 which.2);
  numbers_are = are;
}
  where
    fits : (k : ℕ) → k < length clauses → (l m : Literal)
        → IsPair (get_or clauses k []) (opposite l) m → literal_number m < 4294967296
    fits k within l m pair =
        number_fits m (All-contains (λ (x : Literal). x.atom < 2147483648) (get_or clauses k []) m
        (speak k [] within) pair.has_second)

-- a number is that of one literal
one_number : (a b : ℕ) (s t : Bool) → 2 * a + cond s 0 1 ≡ 2 * b + cond t 0 1
    → ◌≡◌ {A = Literal} (record { atom = a; positive = s }) (record { atom = b; positive = t })
one_number a b true true e = ap (λ n. record { atom = n; positive = true })
    (let f : a ≡ b = omega arith in f)
one_number a b false false e = ap (λ n. record { atom = n; positive = false })
    (let f : a ≡ b = omega arith in f)
one_number a b true false e = absurd (omega arith)
one_number a b false true e = absurd (omega arith)

-- the row of a literal is what it implies
pub implied_is : (clauses : List (List Literal)) (literal : Literal) (numbers : List ℕ)
    → IsRow (ImpliesNumber clauses) (literal_number literal) numbers
    → AreImplied clauses literal numbers
implied_is clauses literal numbers row = record {
  rises = row.rises;
  has = λ number. (
    λ there.
        let is = (row.has number).0 there in
        let same : is.0 ≡ literal = sym (one_number literal.atom is.0.atom literal.positive
        is.0.positive is.2) in
        (is.1, is.3, subst (λ l. Implies clauses l is.1) same is.4),
    λ found. (row.has number).1 (literal, found.0, refl, found.1, found.2),
  );
}
