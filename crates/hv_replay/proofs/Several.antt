-- Lists of which one element changes: what holds of some, of none and of all of their elements.
use Rattle.std.proofs.Common.{Bool, false, true, Option, Some, None, MatchOption, Result, Ok, Err}
use Rattle.std.proofs.Common.{IfNone, IfOk, IfSome, ◌++◌, take, ◌≡◌, ℕ, ◌+◌, ◌<◌, ◌≤◌, ◌∙◌, List}
use Rattle.std.proofs.Common.{get_or, set, length, sym, subst, arith}
use Rattle.std.specs.List.{All, AllWithin, Any}
use Rattle.std.proofs.lemmas.List.{get_or_default, take-append-le, take_all}
use Rattle.std.proofs.lemmas.List.Elements.{All-set, AllWithin-more_set}

pub any_at : {X : Type 0} (xs : List X) (i : ℕ) (d : X) (P : X → Type 0) → i < length xs
    → P (get_or xs i d) → Any P xs
any_at xs i d P within holds = (
  i,
  get_or xs i d,
  within,
  get_or_default xs i (get_or xs i d) d
      within,
  holds,
)

pub none_any : {X : Type 0} (xs : List X) (n : ℕ) (P : X → Type 0) → length xs ≤ n
    → AllWithin (λ x. P x → ⊥) xs 0 n → Any P xs → ⊥
none_any xs n P whole no_one (k, x, within, at, holds) =
    no_one k x (omega arith) (omega (arith, whole, within)) (subst P (sym at) holds)

-- the element at a place is replaced
module _ {X : Type 0} (xs : List X) (i : ℕ) (d y : X) (P : X → Type 0) (within : i < length xs)
  where
    pub none_set : AllWithin (λ x. P x → ⊥) xs 0 i → (P y → ⊥)
        → AllWithin (λ x. P x → ⊥) (set xs i y) 0 (i + 1)
    none_set no_one not_y = AllWithin-more_set xs i y within (λ x. P x → ⊥) no_one not_y

    pub each_set : AllWithin P xs 0 i → P y → AllWithin P (set xs i y) 0 (i + 1)
    each_set each of_y = AllWithin-more_set xs i y within P each of_y

pub all_set : {X : Type 0} (xs : List X) (i : ℕ) (y : X) (P : X → Type 0) → P y → All P xs
    → All P (set xs i y)
all_set xs i y P of_y all = All-set P xs i y of_y all

-- the same words, with the list before the test
abbrev pub AnyOf : {X : Type 0} → List X → (X → Type 0) → Type 0
AnyOf xs P = Any P xs

abbrev pub AllOf : {X : Type 0} → List X → (X → Type 0) → Type 0
AllOf xs P = All P xs

abbrev pub EachBefore : {X : Type 0} → List X → ℕ → (X → Type 0) → Type 0
EachBefore xs n P = AllWithin P xs 0 n

-- whether one was found

pub covered_some : {T : Type 0} (found : Option T) (one : T) (P : Type 0) → found ≡ Some one
    → MatchOption found (P → ⊥) (λ _. P) → P
covered_some found one P is covered = subst (λ f. MatchOption f (P → ⊥) (λ _. P)) is covered

pub covered_none : {T : Type 0} (found : Option T) (P : Type 0) → found ≡ None
    → MatchOption found (P → ⊥) (λ _. P) → P → ⊥
covered_none found P is covered = subst (λ f. MatchOption f (P → ⊥) (λ _. P)) is covered

pub found_none : {T : Type 0} (found : Option T) (P : Type 0) → found ≡ None → IfNone found P → P
found_none found P is kept = subst (λ f. IfNone f P) is kept

pub found_some : {T : Type 0} (found : Option T) (one : T) (P : T → Type 0) → found ≡ Some one
    → IfSome found P → P one
found_some found one P is kept = subst (λ f. IfSome f P) is kept

-- a list that equals another, and one that was written back to its place

pub over_list : {X : Type 0} (xs ys : List X) (F : List X → Type 0) → xs ≡ ys → F xs → F ys
over_list xs ys F is holds = subst F is holds

pub written_back : {X : Type 0} (n : ℕ) (new rest : List X) → length new ≡ n
    → take n (new ++ rest) ≡ new
written_back n new rest size = take-append-le n new rest (omega (arith, size))
    ∙ take_all n new (omega (arith, size))

-- what is said of a state is told of the same one by another list
pub covered_at : {E : Type 0} (r : Result Bool E) (Q : List ℕ → Type 0) (x y : List ℕ)
    (P : Type 0) → x ≡ y → IfOk r (λ b. b ≡ true → Q x) → IfOk r (λ b. b ≡ true → P → Q y)
covered_at (Ok b) Q x y P e h = λ is _. subst Q e (h is)
covered_at (Err f) Q x y P e h = tt

pub uncovered_at : {E : Type 0} (r : Result Bool E) (Q : List ℕ → Type 0) (x y : List ℕ)
    (P : Type 0) → x ≡ y → P → IfOk r (λ b. b ≡ false → Q x → ⊥)
    → IfOk r (λ b. b ≡ false → P × (Q y → ⊥))
uncovered_at (Ok b) Q x y P e p h = λ is. (p, λ q. h is (subst Q (sym e) q))
uncovered_at (Err f) Q x y P e p h = tt
