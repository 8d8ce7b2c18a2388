-- What is kept of what follows from clauses alone.
use Rattle.std.specs.Prelude.{◌≡◌, ◌≤◌, ◌^◌, ◌∷◌, [], ℕ, true, false, List}
use Rattle.std.specs.List.Sorted.{IsStrictlyIncreasing}
use Rattle.hv_sets.specs.declared.literal.Literal.{Literal}
use Rattle.hv_sets.specs.Cubes.{SpeakBelow, atoms_of}
use Rattle.hv_formula.specs.declared.closure.Basis.{Basis}
use Rattle.hv_formula.specs.declared.closure.Closure.{Closure}
use Rattle.hv_indexes.specs.Occurrences.{IsIndexOf}
use Rattle.hv_propagation.specs.Clauses.{AreClauses}
use Rattle.hv_propagation.specs.Forced.{AreForced, AreNever}

-- the clauses are one, and this is one literal
abbrev pub IsLone : List (List Literal) → Type 0
IsLone clauses = (l : Literal) × (clauses ≡ (l ∷ []) ∷ [])

-- it tells where the literals of the clauses stand, and which literals the clauses force, where
-- they aren't one literal themselves; or that the clauses are true in no state
pub record IsClosure (atoms : ℕ) (clauses : List (List Literal)) (closure : Closure) : Type 0 where
  pub index : IsIndexOf clauses closure.occurs
  pub never : closure.broken ≡ true → AreNever atoms clauses
  pub forced : closure.broken ≡ false → closure.lone ≡ false
      → AreForced atoms clauses closure.forced.items
  pub alone : closure.lone ≡ true → IsLone clauses

-- the clauses speak of so many atoms, few enough for their marks, and the index tells where the
-- literals stand
pub record IsBasis (basis : Basis) : Type 0 where
  pub few : basis.atoms ≤ 2 ^ 31
  pub clauses : AreClauses basis.atoms basis.bare.clauses.now
  pub index : IsIndexOf basis.bare.clauses.now basis.bare.occurs.now

-- literals by rising atoms, all of which are below this number
pub record ListsBelow (bound : ℕ) (literals : List Literal) : Type 0 where
  pub rises : IsStrictlyIncreasing (atoms_of literals)
  pub below : SpeakBelow bound literals
