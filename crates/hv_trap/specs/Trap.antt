-- Traps: sets of conjunctions that no action leads out of.
use Rattle.std.specs.Prelude.{◌≡◌, ◌&&◌, ◌↔◌, ℕ, Bool, true, List, Some, slice_get}
use Rattle.hv_task.specs.declared.action.Action.{Action}
use Rattle.hv_task.specs.State.{applicable, successor}
use Rattle.hv_task.specs.Strips.{Strips, IsState, atoms}
use Rattle.hv_sets.specs.Truth.{in_clauses, in_cube}
use Rattle.hv_sets.specs.declared.literal.Literal.{Literal}
use Rattle.hv_trap.specs.Conjunctions.{denials, denies_one, is_short}

-- the conjunction has one or two literals over different atoms, of which one is a negated goal atom
abbrev pub is_candidate : Strips → List Literal → Bool
is_candidate task literals = is_short (atoms task) literals && denies_one task.goal literals

-- a trap: in each state that satisfies one of its conjunctions, and for each action applicable
-- there, the result satisfies one of them
pub record IsTrap (task : Strips) (trap : List Literal → Bool) : Type 0 where
  pub candidates : (c : List Literal) → trap c ≡ true → is_candidate task c ≡ true
  pub stays : (c : List Literal) → trap c ≡ true
      → (state : List Bool) → IsState task state → in_cube c state ≡ true
      → (number : ℕ) (action : Action) → slice_get task.actions number ≡ Some action
      → applicable action state ≡ true
      → (d : List Literal) × (trap d ≡ true) × (in_cube d (successor action state) ≡ true)

-- the conjunction is in the greatest trap: it is in some trap
abbrev pub InGreatestTrap : Strips → List Literal → Type 0
InGreatestTrap task c = (trap : List Literal → Bool) × IsTrap task trap × (trap c ≡ true)

-- the clauses are those that deny the conjunctions of the greatest trap, in order
abbrev pub AreTrapClauses : Strips → List (List Literal) → Type 0
AreTrapClauses task clauses =
    (trap : List Literal → Bool)
    × ((c : List Literal) → (trap c ≡ true) ↔ InGreatestTrap task c)
    × (clauses ≡ denials trap (atoms task))

-- the state satisfies a conjunction of the greatest trap
abbrev pub IsSatisfied : Strips → List Bool → Type 0
IsSatisfied task state =
    (c : List Literal) × InGreatestTrap task c × (in_cube c state ≡ true)

-- How the greatest trap is found: conjunctions are taken out of a set.

-- the action leads from no state that breaks a clause to one in which all are true
abbrev pub Stays : Strips → List (List Literal) → ℕ → Type 0
Stays task clauses number =
    (action : Action) → slice_get task.actions number ≡ Some action
    → (state : List Bool) → IsState task state → applicable action state ≡ true
    → in_clauses clauses (successor action state) ≡ true → in_clauses clauses state ≡ true
