-- Atoms that formulas before the action deny, and the actions that need none of them.
use Rattle.std.specs.Prelude.{◌≡◌, ◌<◌, ℕ, Bool, true, false, List, [], ◌∷◌, Some, length}
use Rattle.std.specs.Prelude.{slice_get}
use Rattle.std.specs.List.{Contains}
use Rattle.hv_task.specs.declared.action.Action.{Action}
use Rattle.hv_task.specs.State.{AreBelow, has_atom}
use Rattle.hv_task.specs.Strips.{Strips}
use Rattle.hv_sets.specs.Query.{in_which}
use Rattle.hv_sets.specs.declared.literal.Literal.{Literal}
use Rattle.hv_sets.specs.declared.operand.Operand.{Operand}
use Rattle.hv_basic.specs.Working.Flags.{flag_or_false}

-- a clause of one literal denies the atom
abbrev pub HasDenial : List (List Literal) → ℕ → Type 0
HasDenial clauses atom = Contains clauses (record { atom = atom; positive = false } ∷ [])

-- the operand is asked about before the action, and no state of its set has the atom
abbrev pub IsAbsentFrom : Strips → (ℕ → List Bool → Bool) → Operand → ℕ → Type 0
IsAbsentFrom task sets operand atom =
    (operand.after ≡ false)
    × ((state : List Bool) → in_which task sets operand.which state ≡ true
    → has_atom state atom ≡ false)

-- each atom with a flag is in no state of the set of one of the operands
abbrev pub AreAbsent : Strips → (ℕ → List Bool → Bool) → List Operand → List Bool → Type 0
AreAbsent task sets positive flags =
    (atom : ℕ) → flag_or_false flags atom ≡ true
    → (operand : Operand) × Contains positive operand × IsAbsentFrom task sets operand atom

-- the list is of actions of the task, of which it has the first, and each one that needs no atom
-- with a flag
pub record AreOpen (task : Strips) (flags : List Bool) (listed : List ℕ) : Type 0 where
  pub below : AreBelow (length task.actions) listed
  pub first : 0 < length task.actions → Contains listed 0
  pub each : (number : ℕ) (action : Action) → slice_get task.actions number ≡ Some action
      → ((atom : ℕ) → Contains action.pre atom → flag_or_false flags atom ≡ false)
      → Contains listed number
