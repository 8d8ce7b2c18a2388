-- The elements of a list: the first and the further ones, those at a place, and those of a list
-- that is mapped.
use Rattle.std.proofs.Common.{◌≡◌, ◌⊎◌, ◌<◌, ◌∙◌, ℕ, zero, suc, Bool, true, List, [], ◌∷◌, ◌++◌}
use Rattle.std.proofs.Common.{Option, Some, None, length, map, get_or, refl, sym, subst, inl, inr}
use Rattle.std.proofs.Common.{arith}
use Rattle.std.proofs.lemmas.Bool.{and_parts}
use Rattle.std.proofs.lemmas.Option.{same_Some, slice_get-get_or, slice_get_within}
use Rattle.std.proofs.lemmas.List.Elements.{Contains-get_or}
use Rattle.std.specs.List.{All, Contains, list_all, slice_get}
use Rattle.std.specs.Option.{option_map}

pub head_in : {X : Type 0} (x : X) (xs : List X) → Contains (x ∷ xs) x
head_in x xs = (0, omega arith, refl)

pub tail_in : {X : Type 0} (x : X) (xs : List X) (y : X) → Contains xs y → Contains (x ∷ xs) y
tail_in x xs y c = (suc c.0, omega (arith, c.1), c.2)

pub cons_cases : {X : Type 0} (x : X) (xs : List X) (y : X) → Contains (x ∷ xs) y
    → (x ≡ y) ⊎ Contains xs y
cons_cases x xs y (zero, within, e) = inl e
cons_cases x xs y (suc k, within, e) = inr (k, omega (arith, within), e)

pub nothing_in : {X : Type 0} (y : X) → Contains [] y → ⊥
nothing_in y c = omega (arith, c.1)

-- what holds of one holds of each in its list, and so for two
pub of_one : {X : Type 0} (P : X → Type 0) (a : X) → P a → (x : X) → Contains (a ∷ []) x → P x
of_one P a is x c = elim (cons_cases a [] x c)
    [ inl same ↦ subst P same is | inr none ↦ absurd (nothing_in x none) ]

pub of_two : {X : Type 0} (P : X → Type 0) (a b : X) → P a → P b → (x : X) → Contains (a ∷ b ∷ []) x
    → P x
of_two P a b is also x c = elim (cons_cases a (b ∷ []) x c)
    [ inl same ↦ subst P same is | inr there ↦ of_one P b also x there ]

pub all_from : {X : Type 0} (P : X → Type 0) (xs : List X) → ((x : X) → Contains xs x → P x)
    → All P xs
all_from P xs each k d below = each (get_or xs k d) (Contains-get_or xs k d below)

pub each_mapped : {A B : Type 0} (p : B → Bool) (f : A → B) (xs : List A)
    → list_all p (map f xs) ≡ true → (a : A) → Contains xs a → p (f a) ≡ true
each_mapped p f [] all a c = absurd (nothing_in a c)
each_mapped p f (x ∷ xs) all a c =
    elim (cons_cases x xs a c) [
      | inl same ↦ subst (λ y. p (f y) ≡ true) same
          (and_parts (p (f x)) (list_all p (map f xs)) all).0
      | inr there ↦ each_mapped p f xs (and_parts (p (f x)) (list_all p (map f xs)) all).1 a there
    ]

pub in_mapped : {X Y : Type 0} (f : X → Y) (xs : List X) (y : Y) → Contains (map f xs) y
    → (x : X) × Contains xs x × (f x ≡ y)
in_mapped f [] y c = absurd (omega (arith, c.1))
in_mapped f (x ∷ xs) y (zero, below, e) = (x, (0, omega arith, refl), e)
in_mapped f (x ∷ xs) y (suc k, below, e) =
    let rest = in_mapped f xs y (k, omega (arith, below), e) in
    (rest.0, (suc rest.1.0, omega (arith, rest.1.1), rest.1.2), rest.2)

pub got_mapped : {X Y : Type 0} (f : X → Y) (found : Option X) (y : Y) → option_map f found ≡ Some y
    → (x : X) × (found ≡ Some x) × (f x ≡ y)
got_mapped f None y e = absurd (cc (e))
got_mapped f (Some x) y e = (x, refl, same_Some (f x) y e)

pub got_in : {X : Type 0} (xs : List X) (k : ℕ) (x : X) → slice_get xs k ≡ Some x → Contains xs x
got_in xs k x at =
    let within = slice_get_within xs k x at in
    (k, within, same_Some (get_or xs k x) x (sym (slice_get-get_or xs k x within) ∙ at))

pub slice_get_some : {X : Type 0} (xs : List X) (k : ℕ) → k < length xs
    → (x : X) × (slice_get xs k ≡ Some x)
slice_get_some [] k below = absurd (omega (arith, below))
slice_get_some (x ∷ xs) zero below = (x, refl)
slice_get_some (x ∷ xs) (suc k) below = slice_get_some xs k (omega (arith, below))

-- the last of a list, or one before
pub last_cases : {X : Type 0} (xs : List X) (x y : X) (k : ℕ) → slice_get (xs ++ x ∷ []) k ≡ Some y
    → (slice_get xs k ≡ Some y) ⊎ (x ≡ y)
last_cases [] x y zero at = inr (same_Some x y at)
last_cases [] x y (suc k) at = absurd (cc (at))
last_cases (z ∷ xs) x y zero at = inl at
last_cases (z ∷ xs) x y (suc k) at = last_cases xs x y k at
