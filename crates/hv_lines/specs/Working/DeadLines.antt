-- Working definitions beside those of `DeadLines`: for private contracts and proofs.
use Rattle.std.specs.Prelude.{◌≡◌, ℕ, Bool, true, List, Some, slice_get}
use Rattle.hv_task.specs.declared.action.Action.{Action}
use Rattle.hv_task.specs.State.{applicable, successor}
use Rattle.hv_task.specs.Strips.{Strips, IsState, is_goal}
use Rattle.hv_sets.specs.Truth.{in_clauses}
use Rattle.hv_sets.specs.declared.literal.Literal.{Literal}

-- no action leads out of the states in which the clauses have this truth, and none of these is a
-- goal state
pub record AreDeadEnd (task : Strips) (truth : Bool) (clauses : List (List Literal)) : Type 0 where
  pub stays : (k : ℕ) (a : Action) → slice_get task.actions k ≡ Some a
      → (state : List Bool) → IsState task state → applicable a state ≡ true
      → in_clauses clauses state ≡ truth → in_clauses clauses (successor a state) ≡ truth
  pub goalless : (state : List Bool) → IsState task state → in_clauses clauses state ≡ truth
      → is_goal task state ≡ true → ⊥
