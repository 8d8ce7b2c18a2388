-- The clauses of the one negative operand, where its set is a positive operand at the other time.
use Rattle.std.specs.Prelude.{◌≡◌, ℕ, Bool, true, List, Some, false, not}
use Rattle.std.specs.List.{Contains}
use Rattle.hv_sets.specs.declared.literal.Literal.{Literal}
use Rattle.hv_sets.specs.declared.operand.Operand.{Operand}
use Rattle.hv_clauses.specs.declared.affected.Affected.{Affected}
use Rattle.hv_propagation.specs.Clauses.{AreClauses}
use Rattle.hv_propagation.specs.Marks.{known}
use Rattle.hv_propagation.specs.Units.{value_of}
use Rattle.hv_clauses.specs.Working.Found.{IsAskedTwice}
use Rattle.hv_indexes.specs.Occurrences.{IsIndexOf}
use Rattle.hv_clauses.specs.Working.Posed.{ProblemState, formulas, width}
use Rattle.hv_indexes.specs.Signed.{StandsAs}
use Rattle.hv_sets.specs.declared.operand.Which.TheVariants as W

-- the operand is framed by the query, it is the set of this number, these are its clauses, which
-- speak of the atoms of the task, and the lists tell where their literals stand
pub record IsAffected (p : ProblemState) (touched : Affected) : Type 0 where
  pub asked_twice : IsAskedTwice p touched.operand
  pub which : touched.operand.which ≡ W.Set touched.number
  pub below : AreClauses (width p) (formulas p touched.number)
  pub clauses : touched.clauses.now ≡ formulas p touched.number
  pub index : IsIndexOf (formulas p touched.number) touched.occurs.now

-- a literal of the clause is known to be true
abbrev pub HasTrue : List ℕ → List ℕ → List Literal → Type 0
HasTrue effect marks clause =
    (l : Literal) × Contains clause l × (value_of effect marks l ≡ Some true)

-- in the clause of this number some atom that the effect makes this value stands with this sign
pub record IsTurnedBy (effect : List ℕ) (value sign : Bool) (clauses : List (List Literal))
    (number : ℕ) : Type 0 where
  pub atom : ℕ
  pub made : known effect atom ≡ Some value
  pub stands : StandsAs sign clauses atom number

-- the sign of the literals that are turned against an operand where their atoms are made this
-- value: those that become false, where the operand is asked about after the action, and those that
-- become true, where it is asked about before
abbrev pub turning_sign : Bool → Bool → Bool
turning_sign true value = not value
turning_sign false value = value

-- no clause of the operand, which is a set, has a literal that the effect turns against it
abbrev pub IsUntouched : ProblemState → Operand → Type 0
IsUntouched p operand = (number : ℕ) → operand.which ≡ W.Set number → (value : Bool) (place : ℕ)
    → IsTurnedBy p.effect value (turning_sign operand.after value) (formulas p number) place → ⊥
