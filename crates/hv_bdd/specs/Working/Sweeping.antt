-- The sweep through live tuples, place by place.
use Rattle.std.specs.Prelude.{◌≡◌, ◌<◌, ◌≤◌, ◌+◌, ◌++◌, ◌⊎◌, ℕ, Bool, List, [], ◌∷◌, Option}
use Rattle.std.specs.Prelude.{None}
use Rattle.std.specs.Prelude.{Some, length, ⊤, filter, nat_eq}
use Rattle.std.specs.List.{All, Contains}
use Rattle.hv_bdd.specs.declared.place_sweep.PlacePass.{PlacePass}
use Rattle.hv_bdd.specs.declared.place_sweep.PlacePass.TheVariants as P
use Rattle.hv_bdd.specs.declared.place_sweep.Swept.{Swept}
use Rattle.hv_bdd.specs.declared.place_sweep.Swept.TheVariants as S
use Rattle.hv_bdd.specs.Live.{moves, roots}
use Rattle.hv_bdd.specs.Tuples.{IsReached, Moves, TuplesPass, if_live, least, next}
use Rattle.hv_bdd.specs.Working.Search.{IsTupleSearch, TupleSearch}

-- no tuple occurs twice
abbrev pub TuplesDiffer : List (List ℕ) → Type 0
TuplesDiffer [] = ⊤
TuplesDiffer (tuple ∷ tuples) = (Contains tuples tuple → ⊥) × TuplesDiffer tuples

-- the tuple, if there is one, is among them, and was put last where it wasn't
abbrev pub IsTupleAdded : List (List ℕ) → Option (List ℕ) → List (List ℕ) → Type 0
IsTupleAdded tuples None tuples' = tuples' ≡ tuples
IsTupleAdded tuples (Some tuple) tuples' =
    (Contains tuples tuple × (tuples' ≡ tuples))
    ⊎ ((Contains tuples tuple → ⊥) × (tuples' ≡ tuples ++ tuple ∷ []))

module _ {O : Type 0} (m : Moves O) (os : List O) (root : List ℕ) where
  -- the tuples that ask for a place
  abbrev pub asking_for : ℕ → List (List ℕ) → List (List ℕ)
  asking_for v tuples = filter (λ t. nat_eq (least m os t) v) tuples

  -- all tuples that are reached and ask for a place before this one are gone, and those to which
  -- they led are gone or wait
  pub record IsSwept (from : ℕ) (gone waiting : List (List ℕ)) : Type 0 where
    pub gone_reached : All (IsReached m os root) gone
    pub waiting_reached : All (IsReached m os root) waiting
    pub gone_differ : TuplesDiffer gone
    pub waiting_differ : TuplesDiffer waiting
    pub before : All (λ t. least m os t < from) gone
    pub upto : All (λ t. from ≤ least m os t) waiting
    pub roots : (u : List ℕ) → if_live m os root ≡ Some u → Contains gone u ⊎ Contains waiting u
    pub closed : (t u : List ℕ) (bit : Bool) → Contains gone t → next m os t bit ≡ Some u
        → Contains gone u ⊎ Contains waiting u

  -- of these tuples, which ask for no place before this one, those that ask for it have moved, and
  -- the others wait on
  pub record IsSweptPlace (v : ℕ) (tuples later : List (List ℕ)) : Type 0 where
    pub reached : All (IsReached m os root) later
    pub differ : TuplesDiffer later
    pub after : All (λ t. v < least m os t) later
    pub moved : (t u : List ℕ) (bit : Bool) → Contains tuples t → least m os t ≡ v
        → next m os t bit ≡ Some u → Contains later u
    pub kept : (t : List ℕ) → Contains tuples t → v < least m os t → Contains later t

  -- these tuples, which are more than so many, are reached and ask for later places than this one
  pub record AreMany (v most : ℕ) (later : List (List ℕ)) : Type 0 where
    pub reached : All (IsReached m os root) later
    pub differ : TuplesDiffer later
    pub after : All (λ t. v < least m os t) later
    pub many : most < length later

-- so many tuples are gone, which asked for these places, and these ones wait
pub record SweptSoFar (s : TupleSearch) (count : ℕ) (places : List ℕ) (waiting : List (List ℕ)) :
    Type 0 where
  pub search : IsTupleSearch s
  pub from : ℕ
  pub upto : from ≤ s.setting.list.atoms
  pub gone : List (List ℕ)
  pub size : length gone ≡ count
  pub swept : IsSwept (moves s.setting) s.asked (roots s.setting s.asked) from gone waiting
  pub asked_for : All (λ t. Contains places (least (moves s.setting) s.asked t)) gone
  pub within : All (λ v. v < s.setting.list.atoms) places

-- what a sweep comes to at one place, where so many tuples may still be reached: so many have
-- moved, or more are reached, or it isn't found out
abbrev pub IsPlacePass : TupleSearch → ℕ → List ℕ → List (List ℕ) → List ℕ → List (List ℕ)
    → PlacePass → Type 0
IsPlacePass s left places here places' here' (P.Moved n) =
    (n ≤ length here) × ((count : ℕ) → SweptSoFar s count places here
    → SweptSoFar s (count + n) places' here')
IsPlacePass s left places here places' here' P.Over =
    (count : ℕ) → SweptSoFar s count places here
    → TuplesPass (moves s.setting) s.asked (roots s.setting s.asked) (count + left)
IsPlacePass s left places here places' here' P.Unsettled = ⊤

-- what a sweep finds out: more tuples than the budget are reached; or no more of them than so many,
-- none of which ends; or it isn't found out
abbrev pub IsSweepAnswer : TupleSearch → ℕ → List ℕ → Swept → Type 0
IsSweepAnswer s budget places S.Over =
    TuplesPass (moves s.setting) s.asked (roots s.setting s.asked) budget
IsSweepAnswer s budget places (S.NoneEnds count) =
    SweptSoFar s count places [] × (count ≤ budget)
IsSweepAnswer s budget places S.Unsettled = ⊤
