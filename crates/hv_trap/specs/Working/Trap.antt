-- Working definitions beside those of `Trap`: for private contracts and proofs.
use Rattle.std.specs.Prelude.{◌≡◌, ℕ, Bool, true, false, List, Some, slice_get}
use Rattle.hv_task.specs.declared.action.Action.{Action}
use Rattle.hv_task.specs.State.{applicable, successor}
use Rattle.hv_task.specs.Strips.{Strips, IsState, atoms}
use Rattle.hv_sets.specs.Truth.{in_clauses}
use Rattle.hv_sets.specs.declared.literal.Literal.{Literal}
use Rattle.hv_trap.specs.Conjunctions.{denials}
use Rattle.hv_trap.specs.Trap.{is_candidate, InGreatestTrap}

-- the clauses are those that deny some conjunctions, in order, of which those of the greatest trap
-- are some
pub record Enclose (task : Strips) (set : List Literal → Bool) (clauses : List (List Literal))
    : Type 0 where
  pub candidates : (c : List Literal) → set c ≡ true → is_candidate task c ≡ true
  pub greatest : (c : List Literal) → InGreatestTrap task c → set c ≡ true
  pub listed : clauses ≡ denials set (atoms task)

-- the same, for conjunctions that the clauses tell
abbrev pub EncloseTrap : Strips → List (List Literal) → Type 0
EncloseTrap task clauses = (set : List Literal → Bool) × Enclose task set clauses

-- the action leads from this state, which breaks a clause, to one in which all are true
pub record Escapes (task : Strips) (clauses : List (List Literal)) (number : ℕ)
    (state : List Bool) : Type 0 where
  pub is_state : IsState task state
  pub before : in_clauses clauses state ≡ false
  pub applies : (action : Action) → slice_get task.actions number ≡ Some action
      → applicable action state ≡ true
  pub after : (action : Action) → slice_get task.actions number ≡ Some action
      → in_clauses clauses (successor action state) ≡ true
