-- Unit propagation in rounds.
use Rattle.std.specs.Prelude.{◌≡◌, ⊤, ℕ, Bool, true, List, [], length}
use Rattle.hv_sets.specs.declared.literal.Literal.{Literal}
use Rattle.hv_sets.specs.Truth.{in_clauses, in_cube}
use Rattle.hv_propagation.specs.declared.unit_rounds.RoundsEnd.{RoundsEnd}
use Rattle.hv_propagation.specs.Forced.{AreNever}
use Rattle.hv_propagation.specs.Trail.{marked}
use Rattle.hv_propagation.specs.Units.{AreSettled}
use Rattle.hv_propagation.specs.declared.unit_rounds.RoundsEnd.TheVariants as E

-- each state in which the clauses are true is in the cube
abbrev pub IsAround : ℕ → List (List Literal) → List Literal → Type 0
IsAround atoms clauses cube =
    (state : List Bool) → length state ≡ atoms → in_clauses clauses state ≡ true
    → in_cube cube state ≡ true

-- beside the cube no clause tells more; or the clauses are true in no state
abbrev pub RoundsTell : ℕ → List (List Literal) → List Literal → RoundsEnd → Type 0
RoundsTell atoms clauses cube E.Settled = AreSettled [] clauses (marked atoms cube)
RoundsTell atoms clauses cube E.Broken = AreNever atoms clauses
RoundsTell atoms clauses cube E.Open = ⊤
