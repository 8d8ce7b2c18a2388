-- Propagation that is driven by the trail: what follows is looked for only at the clauses that have
-- the opposite of a literal that was found true since they were looked at.
use Rattle.std.specs.Prelude.{◌≡◌, ◌<◌, ◌++◌, ℕ, Bool, false, List, length, drop}
use Rattle.std.specs.List.{Contains}
use Rattle.hv_sets.specs.declared.literal.Literal.{Literal}
use Rattle.hv_sets.specs.Cubes.{opposite}
use Rattle.hv_indexes.specs.Places.{clause_at}
use Rattle.hv_propagation.specs.Marks.{Agrees, KeepsKnown}
use Rattle.hv_propagation.specs.Trail.{Knowledge, marks_of}
use Rattle.hv_propagation.specs.Units.{IsSettled}

-- the clause has the opposite of no literal that the trail has from this place on
abbrev pub IsApart : List Literal → ℕ → List Literal → Type 0
IsApart trail from clause =
    (l : Literal) → Contains (drop from trail) l → Contains clause (opposite l) → ⊥

-- the clause is settled, unless it has the opposite of a literal that the trail has from this place
-- on
abbrev pub IsKept : List ℕ → List Literal → Knowledge → ℕ → Type 0
IsKept effect clause knowledge from =
    IsApart knowledge.trail from clause → IsSettled effect (marks_of knowledge) clause

-- the same of each clause: only what the trail has from this place on is still to be followed up
abbrev pub AreKept : List ℕ → List (List Literal) → Knowledge → ℕ → Type 0
AreKept effect clauses knowledge from =
    (place : ℕ) → place < length clauses → IsKept effect (clause_at clauses place) knowledge from

-- What was put on the trail follows from a condition on states. An answer false says that no state
-- that agrees with what was known meets it.
pub record IsFollowed (Holds : List Bool → Type 0) (old new : Knowledge)
    (result : Bool) : Type 0 where
  pub roots : new.roots ≡ old.roots
  pub more : (more : List Literal) × (new.trail ≡ old.trail ++ more)
  pub grows : KeepsKnown (marks_of old) (marks_of new)
  pub follows : (state : List Bool) → length state ≡ length old.roots → Holds state
      → Agrees (marks_of old) state → Agrees (marks_of new) state
  pub broken : result ≡ false → (state : List Bool) → length state ≡ length old.roots → Holds state
      → Agrees (marks_of old) state → ⊥
