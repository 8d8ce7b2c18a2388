-- The clauses that deny conjunctions: when they are true, and which conjunctions are listed.
use Rattle.std.proofs.Common.{◌≡◌, ℕ, ◌+◌, ◌-◌, ◌<◌, ◌≤◌, ◌∙◌, ◌&&◌, ◌||◌, Bool, true, false, not}
use Rattle.std.proofs.Common.{cond, IsTrue, ◌↔◌, List, [], ◌∷◌, ◌++◌, if◌then◌else◌, refl, sym, ap}
use Rattle.std.proofs.Common.{subst, inl, inr, arith, append_assoc}
use Rattle.std.proofs.lemmas.Bool.{and_from, and_parts, both_ways, cases_Bool, lt-ltb, ltb-true}
use Rattle.std.proofs.lemmas.Bool.{not-true}
use Rattle.std.proofs.lemmas.List.Elements.{All-append, All-cons, All-head, All-nil, All-tail}
use Rattle.std.proofs.lemmas.List.Elements.{filter-append}
use Rattle.std.proofs.lemmas.List.Folds.{list_all-append}
use Rattle.std.proofs.lemmas.List.Concat.{flat_map-append}
use Rattle.std.specs.List.{All, Contains, filter, flat_map, range_with_len}
use Rattle.std.specs.Prelude.{nat_lt}
use Rattle.hv_task.specs.State.{has_atom, names_atom}
use Rattle.hv_task.proofs.Places.{names_atom-Decides}
use Rattle.hv_sets.specs.Cubes.{SpeakBelow, opposite}
use Rattle.hv_sets.specs.Truth.{in_clause, in_clauses, in_cube, in_literal}
use Rattle.hv_sets.specs.declared.literal.Literal.{Literal}
use Rattle.hv_propagation.specs.Clauses.{AreClauses}
use Rattle.hv_lines.proofs.Lists.{All-below, All-flat_map, All-range, in_range, pieces_more}
use Rattle.hv_trap.specs.Conjunctions.{conjunctions, denying_clause, denial_in, denials_of, denies}
use Rattle.hv_trap.specs.Conjunctions.{denies_one, affirms, is_short, over_greater, over_one}
use Rattle.hv_trap.specs.Conjunctions.{over_two}

pub denials_next : (set : List Literal → Bool) (f : ℕ → List (List Literal)) (a n : ℕ)
    (old now new : List (List Literal)) → a ≤ n
    → now ≡ old ++ denials_of set (flat_map f (range_with_len a (n - a)))
    → new ≡ now ++ denials_of set (f n)
    → new ≡ old ++ denials_of set (flat_map f (range_with_len a (n + 1 - a)))
denials_next set f a n old now new upto is more =
    let front : List (List Literal) = flat_map f (range_with_len a (n - a)) in
    more
    ∙ (ap (λ ys. ys ++ denials_of set (f n)) is
    ∙ (append_assoc old (denials_of set front) (denials_of set (f n))
    ∙ ap (λ ys. old ++ ys)
    (sym (flat_map-append (denial_in set) front (f n))
    ∙ ap (denials_of set) (pieces_more f a n [] front (front ++ f n) upto refl refl))))

-- the clause that denies a conjunction is true where that is false

opposite_value : (b x : Bool) → cond (not b) x (not x) ≡ not (cond b x (not x))
opposite_value true x = refl
opposite_value false true = refl
opposite_value false false = refl

or_not : (a b c d : Bool) → a ≡ not c → b ≡ not d → (a || b) ≡ not (c && d)
or_not a b true d e f = rw e f
or_not a b false d e f = rw e refl

pub denial_true : (c : List Literal) (state : List Bool)
    → in_clause (denying_clause c) state ≡ not (in_cube c state)
denial_true [] state = refl
denial_true (l ∷ c) state =
    or_not (in_literal (opposite l) state) (in_clause (denying_clause c) state) (in_literal l state)
    (in_cube c state)
    (opposite_value l.positive (has_atom state l.atom)) (denial_true c state)

cond_if : {A : Type 0} (t : Bool) (x y : A) → cond t x y ≡ (if t then x else y)
cond_if true x y = refl
cond_if false x y = refl

module _ (set : List Literal → Bool) (state : List Bool) where
  kept_one : (c : List Literal) (b : Bool)
      → filter (λ x. in_clause x state) (if b then denying_clause c ∷ [] else [])
      ≡ (if b && not (in_cube c state) then denying_clause c ∷ [] else [])
  kept_one c false = refl
  kept_one c true =
      cond_if (in_clause (denying_clause c) state) (denying_clause c ∷ []) []
      ∙ ap (λ t. if t then denying_clause c ∷ [] else []) (denial_true c state)

  -- the clauses that are true in a state deny the conjunctions that are false in it
  pub filter_denials : (cs : List (List Literal))
      → filter (λ x. in_clause x state) (denials_of set cs) ≡ denials_of
      (λ c. set c && not (in_cube c state)) cs
  filter_denials [] = refl
  filter_denials (c ∷ cs) =
      filter-append (λ x. in_clause x state) (denial_in set c) (denials_of set cs)
      ∙ (ap (λ xs. xs ++ filter (λ x. in_clause x state) (denials_of set cs)) (kept_one c (set c))
      ∙ ap (λ xs. (if set c && not (in_cube c state) then denying_clause c ∷ [] else []) ++ xs)
      (filter_denials cs))

  denied_one : (c : List Literal) (b : Bool) → b ≡ true
      → in_clauses (if b then denying_clause c ∷ [] else []) state ≡ true → in_cube c state ≡ false
  denied_one c false is all = absurd (cc (is))
  denied_one c true is all = not-true (in_cube c state)
      (sym (denial_true c state) ∙ (and_parts (in_clause (denying_clause c) state) true all).0)

  -- where all clauses are true, each conjunction of the set is false
  pub true_denials : (cs : List (List Literal)) → in_clauses (denials_of set cs) state ≡ true
      → All (λ c. set c ≡ true → in_cube c state ≡ false) cs
  true_denials [] all = All-nil (λ c. set c ≡ true → in_cube c state ≡ false)
  true_denials (c ∷ cs) all =
      let both = sym (list_all-append (λ x. in_clause x state) (denial_in set c)
      (denials_of set cs)) ∙ all in
      All-cons (λ x. set x ≡ true → in_cube x state ≡ false) c cs
      (λ is. denied_one c (set c) is (and_parts (in_clauses (denial_in set c) state)
      (in_clauses (denials_of set cs) state) both).0)
      (true_denials cs (and_parts (in_clauses (denial_in set c) state)
      (in_clauses (denials_of set cs) state) both).1)

  broken_one : (c : List Literal) (b : Bool)
      → in_clauses (if b then denying_clause c ∷ [] else []) state ≡ false
      → (b ≡ true) × (in_cube c state ≡ true)
  broken_one c false all = absurd (cc (all))
  broken_one c true all =
      elim (cases_Bool (in_cube c state)) [
        | inl is ↦ (refl, is)
        | inr fails ↦
            absurd (both_ways (in_clauses (denying_clause c ∷ []) state) all
            (and_from (in_clause (denying_clause c) state) true (denial_true c state ∙ ap not fails)
            refl))
      ]

  -- where some clause is false, some conjunction of the set is true
  pub false_denials : (cs : List (List Literal)) → in_clauses (denials_of set cs) state ≡ false
      → (c : List Literal) × (set c ≡ true) × (in_cube c state ≡ true)
  false_denials [] all = absurd (cc (all))
  false_denials (c ∷ cs) all =
      elim (cases_Bool (in_clauses (denial_in set c) state)) [
        | inl is ↦
            elim (cases_Bool (in_clauses (denials_of set cs) state)) [
              | inl also ↦
                  absurd (both_ways (in_clauses (denial_in set c ++ denials_of set cs) state) all
                  (list_all-append (λ x. in_clause x state) (denial_in set c) (denials_of set cs)
                  ∙ and_from (in_clauses (denial_in set c) state)
                  (in_clauses (denials_of set cs) state) is also))
              | inr fails ↦ false_denials cs fails
            ]
        | inr fails ↦ let w = broken_one c (set c) fails in (c, w.0, w.1)
      ]

pub denials_same : (set other : List Literal → Bool) (cs : List (List Literal))
    → All (λ c. set c ≡ other c) cs
    → denials_of set cs ≡ denials_of other cs
denials_same set other [] each = refl
denials_same set other (c ∷ cs) each =
    ap (λ b. (if b then denying_clause c ∷ [] else []) ++ denials_of set cs)
    (All-head (λ x. set x ≡ other x) c cs each)
    ∙ ap (λ xs. denial_in other c ++ xs) (denials_same set other cs
    (All-tail (λ x. set x ≡ other x) c cs each))

-- what is listed

module _ {X : Type 0} (P : X → Type 0) where
  All-left : (xs ys : List X) → All P (xs ++ ys) → All P xs
  All-left [] ys all = All-nil P
  All-left (x ∷ xs) ys all = All-cons P x xs (All-head P x (xs ++ ys) all)
      (All-left xs ys (All-tail P x (xs ++ ys) all))

  All-right : (xs ys : List X) → All P (xs ++ ys) → All P ys
  All-right [] ys all = all
  All-right (x ∷ xs) ys all = All-right xs ys (All-tail P x (xs ++ ys) all)

  each_piece : {Y : Type 0} (f : Y → List X) (ys : List Y) → All P (flat_map f ys)
      → All (λ y. All P (f y)) ys
  each_piece f [] all = All-nil (λ y. All P (f y))
  each_piece f (y ∷ ys) all =
      All-cons (λ z. All P (f z)) y ys (All-left (f y) (flat_map f ys) all)
      (each_piece f ys (All-right (f y) (flat_map f ys) all))

below_lt : (a b : ℕ) → nat_lt a b ≡ true → a < b
below_lt a b e = ltb-true a b e

lt_below : (a b : ℕ) → a < b → nat_lt a b ≡ true
lt_below a b e = lt-ltb a b e

-- what holds of each listed conjunction holds of each that is short and denies a goal atom
module _ (P : List Literal → Type 0) (n : ℕ) (goal : List ℕ) (all : All P (conjunctions n)) where
  single : (p : ℕ) → p < n → P (denies p ∷ [])
  single p below =
      All-head P (denies p ∷ []) []
      (in_range (λ x. All P (over_one x)) 0 n
      (each_piece P over_one (range_with_len 0 n)
      (All-left P (flat_map over_one (range_with_len 0 n))
      (flat_map (over_greater n) (range_with_len 0 n)) all))
      p (omega arith) (omega (arith, below)))

  pair : (p q : ℕ) → p < q → q < n → All P (over_two p q)
  pair p q less below =
      in_range (λ x. All P (over_two p x)) (p + 1) (n - (p + 1))
      (each_piece P (over_two p) (range_with_len (p + 1) (n - (p + 1)))
      (in_range (λ x. All P (over_greater n x)) 0 n
      (each_piece P (over_greater n) (range_with_len 0 n)
      (All-right P (flat_map over_one (range_with_len 0 n))
      (flat_map (over_greater n) (range_with_len 0 n)) all))
      p (omega arith) (omega (arith, less, below))))
      q (omega (arith, less)) (omega (arith, less, below))

  of_one : (p : ℕ) (b x : Bool) → p < n → ((not b && x) || false) ≡ true
      → P (record { atom = p; positive = b } ∷ [])
  of_one p true x below denied = absurd (cc (denied))
  of_one p false x below denied = single p below

  of_two : (p q : ℕ) (b c x y : Bool) → p < q → q < n
      → ((not b && x) || ((not c && y) || false)) ≡ true
      → P (record { atom = p; positive = b } ∷ record { atom = q; positive = c } ∷ [])
  of_two p q true true x y less below denied = absurd (cc (denied))
  of_two p q true false x y less below denied =
      All-head P (affirms p ∷ denies q ∷ []) []
      (All-tail P (denies p ∷ affirms q ∷ []) ((affirms p ∷ denies q ∷ []) ∷ [])
      (All-tail P (denies p ∷ denies q ∷ [])
      ((denies p ∷ affirms q ∷ []) ∷ (affirms p ∷ denies q ∷ []) ∷ []) (pair p q less below)))
  of_two p q false true x y less below denied =
      All-head P (denies p ∷ affirms q ∷ []) ((affirms p ∷ denies q ∷ []) ∷ [])
      (All-tail P (denies p ∷ denies q ∷ [])
      ((denies p ∷ affirms q ∷ []) ∷ (affirms p ∷ denies q ∷ []) ∷ []) (pair p q less below))
  of_two p q false false x y less below denied =
      All-head P (denies p ∷ denies q ∷ [])
      ((denies p ∷ affirms q ∷ []) ∷ (affirms p ∷ denies q ∷ []) ∷ []) (pair p q less below)

  pub listed : (c : List Literal) → is_short n c ≡ true → denies_one goal c ≡ true → P c
  listed [] short denied = absurd (cc (denied))
  listed (l ∷ []) short denied =
      of_one l.atom l.positive (names_atom goal l.atom) (below_lt l.atom n short) denied
  listed (l ∷ m ∷ []) short denied =
      of_two l.atom m.atom l.positive m.positive (names_atom goal l.atom) (names_atom goal m.atom)
      (below_lt l.atom m.atom (and_parts (nat_lt l.atom m.atom) (nat_lt m.atom n) short).0)
      (below_lt m.atom n (and_parts (nat_lt l.atom m.atom) (nat_lt m.atom n) short).1) denied
  listed (l ∷ m ∷ k ∷ c) short denied = absurd (cc (short))

-- each listed conjunction is short
pub all_short : (n : ℕ) → All (λ c. is_short n c ≡ true) (conjunctions n)
all_short n =
    All-append Short (flat_map over_one (range_with_len 0 n))
    (flat_map (over_greater n) (range_with_len 0 n))
    (All-flat_map over_one Short (range_with_len 0 n)
    (All-below (λ p. All Short (over_one p)) n
    (λ p below. All-cons Short (denies p ∷ []) [] (lt_below p n below) (All-nil Short))))
    (All-flat_map (over_greater n) Short (range_with_len 0 n)
    (All-below (λ p. All Short (over_greater n p)) n (λ p below.
    All-flat_map (over_two p) Short (range_with_len (p + 1) (n - (p + 1)))
    (All-range (λ q. All Short (over_two p q)) (p + 1) (n - (p + 1))
    (λ q from upto. two p q (omega (arith, from)) (omega (arith, below, upto)))))))
  where
    Short : List Literal → Type 0
    Short c = is_short n c ≡ true

    two : (p q : ℕ) → p < q → q < n → All Short (over_two p q)
    two p q less below =
        let short = and_from (nat_lt p q) (nat_lt q n) (lt_below p q less) (lt_below q n below) in
        All-cons Short (denies p ∷ denies q ∷ [])
        ((denies p ∷ affirms q ∷ []) ∷ (affirms p ∷ denies q ∷ []) ∷ []) short
        (All-cons Short (denies p ∷ affirms q ∷ []) ((affirms p ∷ denies q ∷ []) ∷ []) short
        (All-cons Short (affirms p ∷ denies q ∷ []) [] short (All-nil Short)))

-- the clause that denies a short conjunction speaks of atoms below the bound
pub denial_below : (n : ℕ) (c : List Literal) → is_short n c ≡ true
    → SpeakBelow n (denying_clause c)
denial_below n [] short = absurd (cc (short))
denial_below n (l ∷ []) short =
    All-cons (λ (x : Literal). x.atom < n) (opposite l) [] (below_lt l.atom n short)
    (All-nil (λ (x : Literal). x.atom < n))
denial_below n (l ∷ m ∷ []) short =
    let less = below_lt l.atom m.atom (and_parts (nat_lt l.atom m.atom) (nat_lt m.atom n) short).0
    in
    let below = below_lt m.atom n (and_parts (nat_lt l.atom m.atom) (nat_lt m.atom n) short).1 in
    All-cons (λ (x : Literal). x.atom < n) (opposite l) (opposite m ∷ [])
    (omega (arith, less, below))
    (All-cons (λ (x : Literal). x.atom < n) (opposite m) [] below
    (All-nil (λ (x : Literal). x.atom < n)))
denial_below n (l ∷ m ∷ k ∷ c) short = absurd (cc (short))

one_below : (n : ℕ) (c : List Literal) (b : Bool) → (b ≡ true → is_short n c ≡ true)
    → AreClauses n (if b then denying_clause c ∷ [] else [])
one_below n c false short = All-nil (λ x. SpeakBelow n x)
one_below n c true short = All-cons (λ x. SpeakBelow n x) (denying_clause c) []
    (denial_below n c (short refl)) (All-nil (λ x. SpeakBelow n x))

pub denials_below : (n : ℕ) (set : List Literal → Bool)
    → ((c : List Literal) → set c ≡ true → is_short n c ≡ true)
    → (cs : List (List Literal)) → AreClauses n (denials_of set cs)
denials_below n set short [] = All-nil (λ x. SpeakBelow n x)
denials_below n set short (c ∷ cs) =
    All-append (λ x. SpeakBelow n x) (denial_in set c) (denials_of set cs)
    (one_below n c (set c) (short c)) (denials_below n set short cs)

-- a test that says whether the atom is in the list
pub named_as : (list : List ℕ) (p : ℕ) (b : Bool) → IsTrue b ↔ Contains list p
    → b ≡ names_atom list p
named_as list p true tells = sym ((names_atom-Decides list p).1 (tells.0 refl))
named_as list p false tells =
    elim (cases_Bool (names_atom list p)) [
      | inl is ↦ tells.1 ((names_atom-Decides list p).0 is) ∙ sym is
      | inr fails ↦ sym fails
    ]

-- the same from the first number on
pub denials_first : (set : List Literal → Bool) (f : ℕ → List (List Literal)) (n : ℕ)
    (old now new : List (List Literal))
    → now ≡ old ++ denials_of set (flat_map f (range_with_len 0 n))
    → new ≡ now ++ denials_of set (f n)
    → new ≡ old ++ denials_of set (flat_map f (range_with_len 0 (n + 1)))
denials_first set f n old now new is more =
    let none : n ≡ n - 0 = omega arith in
    let next : n + 1 - 0 ≡ n + 1 = omega arith in
    subst (λ k. new ≡ old ++ denials_of set (flat_map f (range_with_len 0 k))) next
    (denials_next set f 0 n old now new (omega arith)
    (subst (λ k. now ≡ old ++ denials_of set (flat_map f (range_with_len 0 k))) none is) more)
