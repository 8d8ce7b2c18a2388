-- What follows from clauses alone.
use Rattle.std.specs.Prelude.{◌≡◌, ℕ, Bool, true, List, [], length}
use Rattle.std.specs.List.Sorted.{IsStrictlyIncreasing}
use Rattle.hv_sets.specs.declared.literal.Literal.{Literal}
use Rattle.hv_sets.specs.Cubes.{atoms_of}
use Rattle.hv_sets.specs.Truth.{in_clauses}
use Rattle.hv_propagation.specs.Marks.{Agrees}
use Rattle.hv_propagation.specs.Trail.{marked}
use Rattle.hv_propagation.specs.Units.{AreSettled}

-- the literals stand by rising atoms, they are true in each state in which the clauses are, and
-- beside them no clause tells more
pub record AreForced (atoms : ℕ) (clauses : List (List Literal))
    (literals : List Literal) : Type 0 where
  pub rises : IsStrictlyIncreasing (atoms_of literals)
  pub settled : AreSettled [] clauses (marked atoms literals)
  pub follows : (state : List Bool) → length state ≡ atoms → in_clauses clauses state ≡ true
      → Agrees (marked atoms literals) state

-- the clauses are true in no state
abbrev pub AreNever : ℕ → List (List Literal) → Type 0
AreNever atoms clauses =
    (state : List Bool) → length state ≡ atoms → in_clauses clauses state ≡ true → ⊥
