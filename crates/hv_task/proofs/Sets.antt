-- Sets of atoms as rising lists: what they have, and what one more number makes of them.
use Rattle.std.proofs.Common.{◌≡◌, ℕ, suc, zero, ◌+◌, ◌<◌, ◌≤◌, Bool, true, false, eqb, cond, List}
use Rattle.std.proofs.Common.{[], ◌∷◌, ◌++◌, ◌⊎◌, inl, inr, length, get_or, sum, refl, sym, ap}
use Rattle.std.proofs.Common.{subst, arith}
use Rattle.std.specs.Prelude.{◌||◌, ◌==◌, ◌↔◌}
use Rattle.std.specs.List.{Contains, filter, list_any, range_with_len}
use Rattle.std.specs.List.Sorted.{IsStrictlyIncreasing}
use Rattle.std.proofs.lemmas.Bool.Decides.{Decides-eqb}
use Rattle.std.proofs.lemmas.List.FromFn.{get_or-range_with_len, length-range_with_len}
use Rattle.std.proofs.lemmas.List.Elements.{Contains-push_cases, Contains-append_left}
use Rattle.std.proofs.lemmas.List.Elements.{Contains-push}
use Rattle.std.proofs.lemmas.List.{get_or_default}
use Rattle.std.proofs.lemmas.List.Sums.{sum_by-cons}
use Rattle.std.proofs.lemmas.List.Kept.{IsStrictlyIncreasing-filter}
use Rattle.hv_task.specs.AtomList.{Inserts, set_of}
use Rattle.hv_task.specs.Working.AtomList.{members}
use Rattle.hv_task.specs.State.{AreBelow}
use Rattle.hv_task.proofs.Rising.{same_rising}

-- membership by recursion
abbrev Has : ℕ → List ℕ → Type 0
Has a [] = ⊥
Has a (x ∷ xs) = (x ≡ a) ⊎ Has a xs

has_from_contains : (a : ℕ) (xs : List ℕ) (k : ℕ) → k < length xs → get_or xs k a ≡ a → Has a xs
has_from_contains a [] k l e = absurd (omega arith)
has_from_contains a (x ∷ xs) zero l e = inl e
has_from_contains a (x ∷ xs) (suc k) l e = inr (has_from_contains a xs k (omega arith) e)

has : (a : ℕ) (xs : List ℕ) → Contains xs a → Has a xs
has a xs c = has_from_contains a xs c.0 c.1 c.2

contains : (a : ℕ) (xs : List ℕ) → Has a xs → Contains xs a
contains a [] h = absurd h
contains a (x ∷ xs) (inl e) = (zero, omega arith, e)
contains a (x ∷ xs) (inr h) = let c = contains a xs h in
    (suc c.0, (let l = c.1 in omega arith), c.2)

kept : (p : ℕ → Bool) (a x : ℕ) (xs rest : List ℕ) (b : Bool) → p x ≡ b
    → (Has a rest → Has a xs × (p a ≡ true)) → Has a (cond b (x ∷ rest) rest)
    → Has a (x ∷ xs) × (p a ≡ true)
kept p a x xs rest true e more (inl s) = (inl s, subst (λ y. p y ≡ true) s e)
kept p a x xs rest true e more (inr k) = let w = more k in (inr w.0, w.1)
kept p a x xs rest false e more k = let w = more k in (inr w.0, w.1)

has_from_filter : (p : ℕ → Bool) (a : ℕ) (xs : List ℕ) → Has a (filter p xs)
    → Has a xs × (p a ≡ true)
has_from_filter p a [] h = absurd h
has_from_filter p a (x ∷ xs) h = kept p a x xs (filter p xs) (p x) refl (has_from_filter p a xs) h

keeps : (p : ℕ → Bool) (a x : ℕ) (xs rest : List ℕ) (b : Bool) → p x ≡ b → p a ≡ true
    → (Has a xs → Has a rest) → Has a (x ∷ xs) → Has a (cond b (x ∷ rest) rest)
keeps p a x xs rest true e t more (inl s) = inl s
keeps p a x xs rest true e t more (inr k) = inr (more k)
keeps p a x xs rest false e t more (inl s) = let u = ap p s in absurd cc
keeps p a x xs rest false e t more (inr k) = more k

filter_has : (p : ℕ → Bool) (a : ℕ) (xs : List ℕ) → p a ≡ true → Has a xs → Has a (filter p xs)
filter_has p a [] t h = absurd h
filter_has p a (x ∷ xs) t h = keeps p a x xs (filter p xs) (p x) refl t (filter_has p a xs t) h

either : (b c : Bool) → b || c ≡ true → (b ≡ true) ⊎ (c ≡ true)
either true c e = inl refl
either false c e = inr e

has_from_any : (a : ℕ) (xs : List ℕ) → list_any (λ n. n == a) xs ≡ true → Has a xs
has_from_any a [] e = absurd cc
has_from_any a (x ∷ xs) e =
    elim (either (eqb x a) (list_any (λ n. n == a) xs) e)
    [ inl t ↦ inl ((Decides-eqb x a).0 t) | inr t ↦ inr (has_from_any a xs t) ]

any_has : (a : ℕ) (xs : List ℕ) → Has a xs → list_any (λ n. n == a) xs ≡ true
any_has a [] h = absurd h
any_has a (x ∷ xs) (inl e) = rw ((Decides-eqb x a).1 e) refl
any_has a (x ∷ xs) (inr h) = rw (any_has a xs h) (or_true (eqb x a)) where
  or_true : (b : Bool) → b || true ≡ true
  or_true true = refl
  or_true false = refl

contains_range : (a n : ℕ) → a < n → Contains (range_with_len 0 n) a
contains_range a n l = (
  a,
  rw (length-range_with_len 0 n) l,
  (let e = get_or-range_with_len 0 n a a l in
      omega (arith, e)),
)

below_from_range : (a n : ℕ) → Contains (range_with_len 0 n) a → a < n
below_from_range a n c =
    let l : c.0 < n = subst (λ m. c.0 < m) (length-range_with_len 0 n) c.1 in
    let e = get_or-range_with_len 0 n c.0 a l in
    omega (arith, e, c.2)

range_rises : (n : ℕ) → IsStrictlyIncreasing (range_with_len 0 n)
range_rises n k l =
    let m : k + 1 < n = subst (λ m. k + 1 < m) (length-range_with_len 0 n) l in
    let e = get_or-range_with_len 0 n k 0 (omega arith) in
    let f = get_or-range_with_len 0 n (k + 1) 0 m in
    omega (arith, e, f)

pub set_rises : (atoms : ℕ) (listed : List ℕ) → IsStrictlyIncreasing (set_of atoms listed)
set_rises atoms listed = IsStrictlyIncreasing-filter _ _ (range_rises atoms)

pub listed_from_set : (atoms : ℕ) (listed : List ℕ) (a : ℕ) → Contains (set_of atoms listed) a
    → (a < atoms) × Contains listed a
listed_from_set atoms listed a c =
    let h = has_from_filter _ a (range_with_len 0 atoms) (has a _ c) in
    (below_from_range a atoms (contains a _ h.0), contains a listed (has_from_any a listed h.1))

pub set_has : (atoms : ℕ) (listed : List ℕ) (a : ℕ) → a < atoms → Contains listed a
    → Contains (set_of atoms listed) a
set_has atoms listed a l c =
    contains a _ (filter_has (λ b. list_any (λ n. n == b) listed) a (range_with_len 0 atoms)
    (any_has a listed (has a listed c)) (has a _ (contains_range a atoms l)))

-- one more number that is listed is put into the set
pub set_more : (atoms n : ℕ) (listed new : List ℕ) → n < atoms → Inserts (set_of atoms listed) n new
    → set_of atoms (listed ++ n ∷ []) ≡ new
set_more atoms n listed new l i =
    same_rising _ new (set_rises atoms _) i.rises
    (λ a c. let w = listed_from_set atoms (listed ++ n ∷ []) a c in
    (i.has a).1 (elim (Contains-push_cases listed n a w.1)
    [ inl k ↦ inl (set_has atoms listed a w.0 k) | inr e ↦ inr (sym e) ]))
    (λ a c. elim ((i.has a).0 c) [
      | inl k ↦ let w = listed_from_set atoms listed a k in
          set_has atoms _ a w.0 (Contains-append_left listed (n ∷ []) a w.1)
      | inr e ↦ subst (λ b. Contains (set_of atoms (listed ++ n ∷ [])) b) (sym e)
          (set_has atoms _ n l (Contains-push listed n))
    ])

-- a rising list of atoms is its own set
pub set_same : (atoms : ℕ) (listed : List ℕ) → IsStrictlyIncreasing listed → AreBelow atoms listed
    → set_of atoms listed ≡ listed
set_same atoms listed r b =
    same_rising _ listed (set_rises atoms listed) r (λ a c. (listed_from_set atoms listed a c).1)
    (λ a c. set_has atoms listed a (let e = b c.0 a c.1 in subst (λ x. x < atoms) c.2 e) c)

pub set_below : (atoms : ℕ) (listed : List ℕ) → AreBelow atoms (set_of atoms listed)
set_below atoms listed k d l =
    let set = set_of atoms listed in
    let c = listed_from_set atoms listed (get_or set k d)
    (k, l, get_or_default set k (get_or set k d) d l) in c.0

has_below_sum : (a : ℕ) (xs : List ℕ) → Has a xs → a ≤ sum xs
has_below_sum a [] h = absurd h
has_below_sum a (x ∷ xs) (inl e) = let more = sum_by-cons (λ n. n) x xs in omega arith
has_below_sum a (x ∷ xs) (inr h) = let more = sum_by-cons (λ n. n) x xs in
    let later = has_below_sum a xs h in omega arith

-- the members of a list are its numbers, each once
pub members_rise : (listed : List ℕ) → IsStrictlyIncreasing (members listed)
members_rise listed = set_rises (sum listed + 1) listed

pub members_has : (listed : List ℕ) (a : ℕ) → Contains (members listed) a ↔ Contains listed a
members_has listed a = (
  (λ c. (listed_from_set (sum listed + 1) listed a c).1),
  (λ c. let below = has_below_sum a listed (has a listed c) in
      set_has (sum listed + 1) listed a (omega arith) c),
)

-- lists of the same numbers have the same members
pub same_members_of : (xs ys : List ℕ) → ((a : ℕ) → Contains xs a → Contains ys a)
    → ((a : ℕ) → Contains ys a → Contains xs a) → members xs ≡ members ys
same_members_of xs ys f g =
    same_rising (members xs) (members ys) (members_rise xs) (members_rise ys)
    (λ a c. (members_has ys a).1 (f a ((members_has xs a).0 c)))
    (λ a c. (members_has xs a).1 (g a ((members_has ys a).0 c)))

-- a list that rises has itself
pub members_same : (listed : List ℕ) → IsStrictlyIncreasing listed → members listed ≡ listed
members_same listed rises =
    same_rising (members listed) listed (members_rise listed) rises
    (λ a c. (members_has listed a).0 c) (λ a c. (members_has listed a).1 c)

-- one more number
pub members_insert : (listed : List ℕ) (n : ℕ)
    → Inserts (members listed) n (members (listed ++ n ∷ []))
members_insert listed n = record {
  rises = members_rise (listed ++ n ∷ []);
  has = λ a. (
    (λ c. elim (Contains-push_cases listed n a ((members_has (listed ++ n ∷ []) a).0 c))
        [ inl k ↦ inl ((members_has listed a).1 k) | inr e ↦ inr (sym e) ]),
    (λ c. (members_has (listed ++ n ∷ []) a).1
        (elim c [
          | inl k ↦ Contains-append_left listed (n ∷ []) a ((members_has listed a).0 k)
          | inr e ↦ subst (λ b. Contains (listed ++ n ∷ []) b) (sym e) (Contains-push listed n)
        ])),
  );
}
