-- The effect of an action as marks.
use Rattle.std.specs.Prelude.{◌≡◌, ℕ, Bool, true, List, Option, length, [], if◌then◌else◌}
use Rattle.hv_task.specs.declared.action.Action.{Action}
use Rattle.hv_sets.specs.Query.{asked}
use Rattle.hv_propagation.specs.Marks.{over}

-- the marks are the effect of the action, if there is one: put over a state of as many atoms they
-- make its successor
abbrev pub IsEffect : Option Action → List ℕ → Type 0
IsEffect action effect =
    (state : List Bool) → length state ≡ length effect → over effect state ≡ asked action true state

-- the effect through which an operand is asked: that of the action if it is asked after the action,
-- and else none
abbrev pub late : List ℕ → Bool → List ℕ
late effect after = if after then effect else []
