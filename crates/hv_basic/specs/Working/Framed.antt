-- Which actions can lead into a formula, or out of it; and flags for the atoms of its literals.
use Rattle.std.specs.Prelude.{◌≡◌, ◌<◌, ◌⊎◌, ℕ, Bool, true, false, not, List, Some, length}
use Rattle.std.specs.Prelude.{slice_get}
use Rattle.std.specs.List.{All, Contains}
use Rattle.hv_task.specs.declared.action.Action.{Action}
use Rattle.hv_task.specs.State.{AreBelow, applicable}
use Rattle.hv_task.specs.Strips.{Strips, atoms}
use Rattle.hv_sets.specs.Query.{asked}
use Rattle.hv_sets.specs.declared.literal.Literal.{Literal}
use Rattle.hv_sets.specs.declared.operand.Operand.{Operand}
use Rattle.hv_sets.specs.declared.operand.Which.TheVariants as W
use Rattle.hv_basic.specs.ChangeRows.{changed_to}
use Rattle.hv_basic.specs.Working.Flags.{flag_or_false}

-- the set with this number is asked about positively at one time, which is after the action (into)
-- or before it, and negatively at the other
abbrev pub IsFramed : List Operand → List Operand → ℕ → Bool → Type 0
IsFramed positive negative number into =
    ((first : Operand) × Contains positive first × (first.which ≡ W.Set number)
    × (first.after ≡ into))
    × ((second : Operand) × Contains negative second × (second.which ≡ W.Set number)
    × (second.after ≡ not into))

-- the sign that a literal's atom has to get, so that the literal becomes true, or false
abbrev pub sign_to : Bool → Bool → Bool
sign_to true positive = positive
sign_to false positive = not positive

-- the action can make the literal true, or false
abbrev pub CanTurn : Bool → Literal → Action → Type 0
CanTurn value literal action =
    Contains (changed_to (sign_to value literal.positive) action) literal.atom

-- the list is of actions of the task, of which it has the first, and each one that can make a
-- literal of the clauses true, or false
pub record AreTurning (task : Strips) (clauses : List (List Literal)) (value : Bool)
    (listed : List ℕ) : Type 0
  where
    pub below : AreBelow (length task.actions) listed
    pub first : 0 < length task.actions → Contains listed 0
    pub each : (number : ℕ) (action : Action) (clause : List Literal) (literal : Literal)
        → slice_get task.actions number ≡ Some action → Contains clauses clause
        → Contains clause literal → CanTurn value literal action → Contains listed number

-- the same, with each one that leads from a state in which it is applicable into the set, or out of
-- it
pub record AreCrossing (task : Strips) (has : List Bool → Bool) (into : Bool) (listed : List ℕ)
    : Type 0
  where
    pub below : AreBelow (length task.actions) listed
    pub first : 0 < length task.actions → Contains listed 0
    pub each : (number : ℕ) (action : Action) (state : List Bool)
        → slice_get task.actions number ≡ Some action → length state ≡ atoms task
        → applicable action state ≡ true → has (asked (Some action) into state) ≡ true
        → has (asked (Some action) (not into) state) ≡ false → Contains listed number

-- the literal's atom has a flag, if the literal becomes true (value), or false, where the atom is
-- added (sign), or deleted
abbrev pub IsFlagged : Bool → Bool → List Bool → Literal → Type 0
IsFlagged value sign flags literal =
    sign_to value literal.positive ≡ sign → literal.atom < length flags
    → flag_or_false flags literal.atom ≡ true

-- a flag for each of so many atoms, which those have at which a literal of the clauses becomes true
-- (value), or false, where they are added (sign), or deleted
abbrev pub AreFlagsFor : Bool → Bool → ℕ → List (List Literal) → List Bool → Type 0
AreFlagsFor value sign count clauses flags =
    (length flags ≡ count) × All (λ clause. All (IsFlagged value sign flags) clause) clauses

-- one of the atoms has a flag
abbrev pub HaveFlag : List Bool → List ℕ → Type 0
HaveFlag flags listed = (atom : ℕ) × Contains listed atom × (flag_or_false flags atom ≡ true)

-- the action adds an atom with a flag for that, or deletes one
abbrev pub ChangesOne : List Bool → List Bool → Action → Type 0
ChangesOne added deleted action = HaveFlag added action.add ⊎ HaveFlag deleted action.del
