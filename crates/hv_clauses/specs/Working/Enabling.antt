-- When an action is applicable in each state that agrees with marks.
use Rattle.std.specs.Prelude.{◌≡◌, ℕ, Bool, true, List, Option, Some}
use Rattle.std.specs.List.{All}
use Rattle.hv_task.specs.declared.action.Action.{Action}
use Rattle.hv_sets.specs.Query.{may_apply}
use Rattle.hv_propagation.specs.Marks.{known, Agrees}

-- each of these atoms is known to be in
abbrev pub AreMarkedIn : List ℕ → List ℕ → Type 0
AreMarkedIn atoms marks = All (λ atom. known marks atom ≡ Some true) atoms

-- in each state that agrees with the marks the action, if there is one, is applicable
abbrev pub IsEnabled : Option Action → List ℕ → Type 0
IsEnabled action marks = (state : List Bool) → Agrees marks state → may_apply action state ≡ true
