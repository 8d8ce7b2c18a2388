-- Where the search for a counterexample starts.
use Rattle.std.specs.Prelude.{◌≡◌, ℕ, Bool, List, Option, None, Some, length, ⊤}
use Rattle.std.specs.List.{Contains}
use Rattle.hv_sets.specs.declared.operand.Operand.{Operand}
use Rattle.hv_clauses.specs.declared.start.Start.{Start}
use Rattle.hv_propagation.specs.Roots.{AreSettledBut}
use Rattle.hv_propagation.specs.Effect.{late}
use Rattle.hv_propagation.specs.Marks.{Agrees}
use Rattle.hv_clauses.specs.Working.Posed.{InEach, ProblemState, formulas, width}
use Rattle.hv_propagation.specs.Trail.{marked}
use Rattle.hv_sets.specs.declared.operand.Which.TheVariants as W

-- beside what was known before, only those clauses of the operand, if there is one, tell more of
-- which the effect makes a literal false
abbrev pub IsBasedOn : ProblemState → Option Operand → List ℕ → Type 0
IsBasedOn p None roots = ⊤
IsBasedOn p (Some operand) roots = (number : ℕ) → operand.which ≡ W.Set number
    → AreSettledBut (late p.effect operand.after) (formulas p number) roots

-- the operand is in the list, and it is a set of a store
abbrev pub IsSetAmong : List Operand → Operand → Type 0
IsSetAmong operands operand =
    Contains operands operand × (number : ℕ) × (operand.which ≡ W.Set number)

-- what the marks say is so in each state that is in each positive operand
abbrev pub HoldInEach : ProblemState → List ℕ → Type 0
HoldInEach p marks = (state : List Bool) → length state ≡ width p → InEach p state
    → Agrees marks state

-- what is known is so in each state that is in each positive operand
pub record IsStart (p : ProblemState) (start : Start) : Type 0 where
  pub rooted : IsBasedOn p start.operand (marked (width p) start.roots)
  pub follows : HoldInEach p (marked (width p) start.roots)
