-- Where an element is in lists that are put together.
use Rattle.std.proofs.Common.{◌≡◌, ℕ, zero, suc, ◌+◌, ◌<◌, ◌≤◌, ◌⊎◌, List, [], ◌∷◌, ◌++◌}
use Rattle.std.proofs.Common.{Some, map, refl, ap, sym, subst, inl, inr, arith}
use Rattle.std.proofs.lemmas.Bool.{cases_eq}
use Rattle.std.specs.List.{enumerate_from, flat_map, range_with_len, slice_get}

pub stands_left : {X : Type 0} (xs ys : List X) (k : ℕ) (x : X) → slice_get xs k ≡ Some x
    → slice_get (xs ++ ys) k ≡ Some x
stands_left [] ys k x h = absurd cc
stands_left (y ∷ xs) ys zero x h = h
stands_left (y ∷ xs) ys (suc k) x h = stands_left xs ys k x h

pub stands_right : {X : Type 0} (xs ys : List X) (k : ℕ) (x : X) → slice_get ys k ≡ Some x
    → (l : ℕ) × (slice_get (xs ++ ys) l ≡ Some x)
stands_right [] ys k x h = (k, h)
stands_right (y ∷ xs) ys k x h = let r = stands_right xs ys k x h in (suc r.0, r.1)

pub stands_cases : {X : Type 0} (xs ys : List X) (k : ℕ) (x : X) → slice_get (xs ++ ys) k ≡ Some x
    → ((l : ℕ) × (slice_get xs l ≡ Some x)) ⊎ ((l : ℕ) × (slice_get ys l ≡ Some x))
stands_cases [] ys k x h = inr (k, h)
stands_cases (y ∷ xs) ys zero x h = inl (zero, h)
stands_cases (y ∷ xs) ys (suc k) x h =
    elim (stands_cases xs ys k x h) [ inl l ↦ inl (suc l.0, l.1) | inr r ↦ inr r ]

pub stands_map : {X Y : Type 0} (g : X → Y) (xs : List X) (k : ℕ) (x : X) → slice_get xs k ≡ Some x
    → slice_get (map g xs) k ≡ Some (g x)
stands_map g [] k x h = absurd cc
stands_map g (z ∷ xs) zero x h = let e : z ≡ x = cc in ap (λ y. Some (g y)) e
stands_map g (z ∷ xs) (suc k) x h = stands_map g xs k x h

pub map_stands : {X Y : Type 0} (g : X → Y) (xs : List X) (k : ℕ) (y : Y)
    → slice_get (map g xs) k ≡ Some y
    → (x : X) × (slice_get xs k ≡ Some x) × (g x ≡ y)
map_stands g [] k y h = absurd cc
map_stands g (z ∷ xs) zero y h = (z, refl, cc)
map_stands g (z ∷ xs) (suc k) y h = map_stands g xs k y h

pub stands_range : (a n j : ℕ) → a ≤ j → j < a + n
    → (k : ℕ) × (slice_get (range_with_len a n) k ≡ Some j)
stands_range a zero j from below = absurd (omega arith)
stands_range a (suc n) j from below =
    elim (cases_eq a j) [
      | inl e ↦ (zero, ap (λ x. Some x) e)
      | inr ne ↦ let r = stands_range (a + 1) n j (omega arith) (omega arith) in (suc r.0, r.1)
    ]

pub range_stands : (a n k j : ℕ) → slice_get (range_with_len a n) k ≡ Some j → (a ≤ j) × (j < a + n)
range_stands a zero k j h = absurd cc
range_stands a (suc n) zero j h = let e : a ≡ j = cc in (omega arith, omega arith)
range_stands a (suc n) (suc k) j h =
    let r = range_stands (a + 1) n k j h in
    let low = r.0 in let high = r.1 in (omega arith, omega arith)

-- an element of the part that the element at some place comes to
pub stands_flat : {X Y : Type 0} (f : ℕ × X → List Y) (xs : List X) (m i n : ℕ) (x : X) (k : ℕ)
    (y : Y)
    → n ≡ m + i → slice_get xs i ≡ Some x → slice_get (f (n, x)) k ≡ Some y
    → (l : ℕ) × (slice_get (flat_map f (enumerate_from m xs)) l ≡ Some y)
stands_flat f [] m i n x k y e at h = absurd cc
stands_flat f (z ∷ xs) m zero n x k y e at h =
    let same : n ≡ m = omega arith in
    let here : z ≡ x = cc in
    let there : slice_get (f (m, z)) k ≡ Some y =
    subst (λ w. slice_get (f (m, w)) k ≡ Some y) (sym here)
    (subst (λ w. slice_get (f (w, x)) k ≡ Some y) same h) in
    (k, stands_left (f (m, z)) (flat_map f (enumerate_from (m + 1) xs)) k y there)
stands_flat f (z ∷ xs) m (suc i) n x k y e at h =
    let r = stands_flat f xs (m + 1) i n x k y (omega arith) at h in
    stands_right (f (m, z)) (flat_map f (enumerate_from (m + 1) xs)) r.0 y r.1

-- and each element is in one of the parts
pub flat_stands : {X Y : Type 0} (f : ℕ × X → List Y) (xs : List X) (m l : ℕ) (y : Y)
    → slice_get (flat_map f (enumerate_from m xs)) l ≡ Some y
    → (i : ℕ) × (x : X) × (n : ℕ) × (k : ℕ) × (n ≡ m + i) × (slice_get xs i ≡ Some x)
    × (slice_get (f (n, x)) k ≡ Some y)
flat_stands f [] m l y h = absurd cc
flat_stands f (z ∷ xs) m l y h =
    elim (stands_cases (f (m, z)) (flat_map f (enumerate_from (m + 1) xs)) l y h) [
      | inl here ↦ (zero, z, m, here.0, omega arith, refl, here.1)
      | inr later ↦
          let r = flat_stands f xs (m + 1) later.0 y later.1 in
          let place = r.4 in (suc r.0, r.1, r.2, r.3, omega arith, r.5, r.6)
    ]
