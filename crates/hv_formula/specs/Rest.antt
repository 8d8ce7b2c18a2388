-- Which clauses are true in a cube.
use Rattle.std.specs.Prelude.{◌≡◌, ◌<◌, ◌≤◌, ℕ, Bool, true, false, List, length, take}
use Rattle.std.specs.Prelude.{slice_index_or}
use Rattle.hv_sets.specs.declared.literal.Literal.{Literal}
use Rattle.hv_sets.specs.Truth.{in_clause, in_cube}
use Rattle.hv_formula.specs.declared.arranged.Arranged.{Arranged}
use Rattle.hv_indexes.specs.Places.{clause_at}

-- each of so many places is in the order, where its own entry says
pub record IsArranged (count : ℕ) (arranged : Arranged) : Type 0 where
  pub fits : count ≤ 4294967295
  pub size : length arranged.order.items ≡ count
  pub room : length arranged.places.items ≡ count
  pub few : arranged.done ≤ count
  pub below : (k : ℕ) → k < count → slice_index_or arranged.order.items k 0 < count
  pub within : (c : ℕ) → c < count → slice_index_or arranged.places.items c 0 < count
  pub back : (c : ℕ) → c < count
      → slice_index_or arranged.order.items (slice_index_or arranged.places.items c 0) 0 ≡ c

-- the clauses at the first so many places of the order are true in each state of the cube
abbrev pub AreTrueUpto : List (List Literal) → List Literal → List ℕ → ℕ → Type 0
AreTrueUpto clauses cube order upto =
    (k : ℕ) → k < upto → (s : List Bool) → in_cube cube s ≡ true
    → in_clause (clause_at clauses (slice_index_or order k 0)) s ≡ true

-- this is so with the cube of the literals, and with that of those before each, up to its point
pub record AreTrueAlong (clauses : List (List Literal)) (literals : List Literal)
    (order points : List ℕ) (done : ℕ) : Type 0 where
  pub sizes : length points ≡ length literals
  pub rises : (i j : ℕ) → i ≤ j → j < length points
      → slice_index_or points i 0 ≤ slice_index_or points j 0
  pub within : (i : ℕ) → i < length points → slice_index_or points i 0 ≤ done
  pub before : (i : ℕ) → i < length points
      → AreTrueUpto clauses (take i literals) order (slice_index_or points i 0)
  pub here : AreTrueUpto clauses literals order done

-- the places are arranged once they are asked for, and before that nothing is assumed
pub record IsReadyFor (clauses : List (List Literal)) (literals : List Literal) (ready : Bool)
    (arranged : Arranged) : Type 0 where
  pub made : ready ≡ true → IsArranged (length clauses) arranged
  pub first : ready ≡ false → length literals ≡ 0
