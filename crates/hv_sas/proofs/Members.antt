-- Membership in lists, by recursion, and what it is in a list that is made of others.
use Rattle.std.proofs.Common.{◌≡◌, ℕ, zero, suc, ◌+◌, ◌<◌, ◌≤◌, ◌⊎◌, inl, inr, Bool, true, false}
use Rattle.std.proofs.Common.{List, [], ◌∷◌}
use Rattle.std.proofs.Common.{◌++◌, ◌&&◌, ◌||◌, Option, None, Some, cond, length, map, get_or}
use Rattle.std.proofs.Common.{refl, sym, ap}
use Rattle.std.proofs.Common.{subst, arith, ◌∙◌}
use Rattle.std.specs.List.{All, Contains, cons_option, filter, filter_map, flat_map, list_all}
use Rattle.std.specs.List.{list_any}
use Rattle.std.specs.List.{range_with_len}
use Rattle.std.proofs.lemmas.List.Elements.{All-contains}
use Rattle.std.proofs.lemmas.Bool.{cases_eq}

-- the element is in the list
abbrev pub Has : {X : Type 0} → X → List X → Type 0
Has a [] = ⊥
Has a (x ∷ xs) = (x ≡ a) ⊎ Has a xs

contains_has_at : {X : Type 0} (a : X) (xs : List X) (k : ℕ) → k < length xs → get_or xs k a ≡ a
    → Has a xs
contains_has_at a [] k l e = absurd (omega arith)
contains_has_at a (x ∷ xs) zero l e = inl e
contains_has_at a (x ∷ xs) (suc k) l e = inr (contains_has_at a xs k (omega arith) e)

pub contains_has : {X : Type 0} (a : X) (xs : List X) → Contains xs a → Has a xs
contains_has a xs c = contains_has_at a xs c.0 c.1 c.2

pub has_contains : {X : Type 0} (a : X) (xs : List X) → Has a xs → Contains xs a
has_contains a [] h = absurd h
has_contains a (x ∷ xs) (inl e) = (zero, omega arith, e)
has_contains a (x ∷ xs) (inr h) =
    let c = has_contains a xs h in
    let l = c.1 in (suc c.0, omega arith, c.2)

-- what holds of each element holds of this one
pub all_of : {X : Type 0} (P : X → Type 0) (xs : List X) (a : X) → All P xs → Has a xs → P a
all_of P xs a all h = All-contains P xs a all (has_contains a xs h)

pub either : (b c : Bool) → b || c ≡ true → (b ≡ true) ⊎ (c ≡ true)
either true c e = inl refl
either false c e = inr e

pub left_true : (b c : Bool) → b ≡ true → b || c ≡ true
left_true true c e = refl
left_true false c e = absurd cc

pub right_true : (b c : Bool) → c ≡ true → b || c ≡ true
right_true true c e = refl
right_true false c e = e

pub both : (b c : Bool) → b ≡ true → c ≡ true → b && c ≡ true
both true c e f = f
both false c e f = absurd cc

pub first_true : (b c : Bool) → b && c ≡ true → b ≡ true
first_true true c e = refl
first_true false c e = absurd cc

pub second_true : (b c : Bool) → b && c ≡ true → c ≡ true
second_true true c e = e
second_true false c e = absurd cc

-- two tests that pass together are one
pub same_truth : (b c : Bool) → (b ≡ true → c ≡ true) → (c ≡ true → b ≡ true) → b ≡ c
same_truth true c f g = sym (f refl)
same_truth false true f g = g refl
same_truth false false f g = refl

pub any_has : {X : Type 0} (test : X → Bool) (xs : List X) (x : X) → Has x xs → test x ≡ true
    → list_any test xs ≡ true
any_has test [] x h t = absurd h
any_has test (y ∷ xs) x (inl e) t =
    left_true (test y) (list_any test xs) (subst (λ z. test z ≡ true) (sym e) t)
any_has test (y ∷ xs) x (inr h) t = right_true (test y) (list_any test xs) (any_has test xs x h t)

pub all_from : {X : Type 0} (test : X → Bool) (xs : List X) (x : X) → list_all test xs ≡ true
    → Has x xs → test x ≡ true
all_from test [] x e h = absurd h
all_from test (y ∷ xs) x e (inl s) =
    subst (λ z. test z ≡ true) s (first_true (test y) (list_all test xs) e)
all_from test (y ∷ xs) x e (inr h) =
    all_from test xs x (second_true (test y) (list_all test xs) e) h

pub all_has : {X : Type 0} (test : X → Bool) (xs : List X) → ((x : X) → Has x xs → test x ≡ true)
    → list_all test xs ≡ true
all_has test [] h = refl
all_has test (y ∷ xs) h =
    both (test y) (list_all test xs) (h y (inl refl)) (all_has test xs (λ x k. h x (inr k)))

pub has_left : {X : Type 0} (a : X) (xs ys : List X) → Has a xs → Has a (xs ++ ys)
has_left a [] ys h = absurd h
has_left a (x ∷ xs) ys (inl e) = inl e
has_left a (x ∷ xs) ys (inr h) = inr (has_left a xs ys h)

pub has_right : {X : Type 0} (a : X) (xs ys : List X) → Has a ys → Has a (xs ++ ys)
has_right a [] ys h = h
has_right a (x ∷ xs) ys h = inr (has_right a xs ys h)

pub has_split : {X : Type 0} (a : X) (xs ys : List X) → Has a (xs ++ ys) → Has a xs ⊎ Has a ys
has_split a [] ys h = inr h
has_split a (x ∷ xs) ys (inl e) = inl (inl e)
has_split a (x ∷ xs) ys (inr h) =
    elim (has_split a xs ys h) [ inl k ↦ inl (inr k) | inr k ↦ inr k ]

pub map_has : {X Y : Type 0} (f : X → Y) (xs : List X) (a : X) → Has a xs → Has (f a) (map f xs)
map_has f [] a h = absurd h
map_has f (x ∷ xs) a (inl e) = inl (ap f e)
map_has f (x ∷ xs) a (inr h) = inr (map_has f xs a h)

pub map_from : {X Y : Type 0} (f : X → Y) (xs : List X) (b : Y) → Has b (map f xs)
    → (a : X) × Has a xs × (f a ≡ b)
map_from f [] b h = absurd h
map_from f (x ∷ xs) b (inl e) = (x, inl refl, e)
map_from f (x ∷ xs) b (inr h) = let m = map_from f xs b h in (m.0, inr m.1, m.2)

kept_has : {X : Type 0} (test : X → Bool) (a x : X) (xs rest : List X) (b : Bool) → test x ≡ b
    → test a ≡ true → (Has a xs → Has a rest) → Has a (x ∷ xs) → Has a (cond b (x ∷ rest) rest)
kept_has test a x xs rest true e t more (inl s) = inl s
kept_has test a x xs rest true e t more (inr k) = inr (more k)
kept_has test a x xs rest false e t more (inl s) = let u = ap test s in absurd cc
kept_has test a x xs rest false e t more (inr k) = more k

pub filter_has : {X : Type 0} (test : X → Bool) (xs : List X) (a : X) → test a ≡ true → Has a xs
    → Has a (filter test xs)
filter_has test [] a t h = absurd h
filter_has test (x ∷ xs) a t h =
    kept_has test a x xs (filter test xs) (test x) refl t (filter_has test xs a t) h

kept_from : {X : Type 0} (test : X → Bool) (a x : X) (xs rest : List X) (b : Bool) → test x ≡ b
    → (Has a rest → Has a xs × (test a ≡ true)) → Has a (cond b (x ∷ rest) rest)
    → Has a (x ∷ xs) × (test a ≡ true)
kept_from test a x xs rest true e more (inl s) = (inl s, subst (λ y. test y ≡ true) s e)
kept_from test a x xs rest true e more (inr k) = let w = more k in (inr w.0, w.1)
kept_from test a x xs rest false e more k = let w = more k in (inr w.0, w.1)

pub filter_from : {X : Type 0} (test : X → Bool) (xs : List X) (a : X) → Has a (filter test xs)
    → Has a xs × (test a ≡ true)
filter_from test [] a h = absurd h
filter_from test (x ∷ xs) a h =
    kept_from test a x xs (filter test xs) (test x) refl (filter_from test xs a) h

pub flat_map_has : {X Y : Type 0} (f : X → List Y) (xs : List X) (a : X) (b : Y) → Has a xs
    → Has b (f a) → Has b (flat_map f xs)
flat_map_has f [] a b h k = absurd h
flat_map_has f (x ∷ xs) a b (inl e) k =
    has_left b (f x) (flat_map f xs) (subst (λ y. Has b (f y)) (sym e) k)
flat_map_has f (x ∷ xs) a b (inr h) k =
    has_right b (f x) (flat_map f xs) (flat_map_has f xs a b h k)

pub flat_map_from : {X Y : Type 0} (f : X → List Y) (xs : List X) (b : Y) → Has b (flat_map f xs)
    → (a : X) × Has a xs × Has b (f a)
flat_map_from f [] b h = absurd h
flat_map_from f (x ∷ xs) b h =
    elim (has_split b (f x) (flat_map f xs) h) [
      | inl k ↦ (x, inl refl, k)
      | inr k ↦ let m = flat_map_from f xs b k in (m.0, inr m.1, m.2)
    ]

-- the numbers of a range
pub range_has : (from count k : ℕ) → from ≤ k → k < from + count → Has k (range_with_len from count)
range_has from zero k low high = absurd (omega arith)
range_has from (suc count) k low high =
    elim (cases_eq from k) [
      | inl e ↦ inl e
      | inr other ↦ inr (range_has (from + 1) count k (omega arith) (omega arith))
    ]

pub range_from : (from count k : ℕ) → Has k (range_with_len from count)
    → (from ≤ k) × (k < from + count)
range_from from zero k h = absurd h
range_from from (suc count) k (inl e) = (omega arith, omega arith)
range_from from (suc count) k (inr h) =
    let w = range_from (from + 1) count k h in
    let low = w.0 in
    let high = w.1 in (omega arith, omega arith)

pub filter_map_from : {X Y : Type 0} (f : X → Option Y) (xs : List X) (b : Y)
    → Has b (filter_map f xs) → (a : X) × Has a xs × (f a ≡ Some b)
filter_map_from f [] b h = absurd h
filter_map_from f (x ∷ xs) b h =
    elim (option_from (f x) (filter_map f xs) b h) [
      | inl e ↦ (x, inl refl, e)
      | inr k ↦ let m = filter_map_from f xs b k in (m.0, inr m.1, m.2)
    ]
  where
    option_from : {Y : Type 0} (o : Option Y) (ys : List Y) (b : Y) → Has b (cons_option o ys)
        → ◌≡◌ {A = Option Y} o (Some b) ⊎ Has b ys
    option_from None ys b h = inr h
    option_from (Some y) ys b (inl e) = inl (ap (λ z. Some z) e)
    option_from (Some y) ys b (inr k) = inr k

pub all-append : {X : Type 0} (test : X → Bool) (xs ys : List X)
    → list_all test (xs ++ ys) ≡ (list_all test xs && list_all test ys)
all-append test [] ys = refl
all-append test (x ∷ xs) ys =
    ap (λ b. test x && b) (all-append test xs ys)
    ∙ sym (grouped (test x) (list_all test xs) (list_all test ys))
  where
    grouped : (a b c : Bool) → (a && b) && c ≡ a && (b && c)
    grouped true b c = refl
    grouped false b c = refl
