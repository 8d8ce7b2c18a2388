-- States from which the goal is excluded are dead: no action leads out of the states that hold
-- nothing but what is reached.
use Rattle.std.proofs.Common.{ℕ, Bool, List, inl}
use Rattle.hv_task.specs.Deadness.{AreDead}
use Rattle.hv_task.specs.Strips.{Strips}
use Rattle.hv_task.proofs.Deadness.{progress}
use Rattle.hv_reach.specs.Reached.{ClosedAtoms, ClosedPairs}
use Rattle.hv_reach.specs.Written.{PairsExcludeFrom, RelaxedExcludesFrom}
use Rattle.hv_reach.proofs.Denials.{HoldsPairs, HoldsReached, pairs_stay, reached_stay, goal_held}

pub relaxed_dead_from : (task : Strips) → AreDead task (RelaxedExcludesFrom task)
relaxed_dead_from task start is_start out =
    progress task Within (λ _. ⊥)
    (λ s k a is_state at applies holds no.
    no (inl (λ set closed. reached_stay task start set closed k a at s applies (holds set closed))))
    (λ s is_state none. absurd none)
    (λ s is_state (holds, goal). absurd (out.2
    (λ set closed. holds set closed out.0 (goal_held task s out.0 goal out.1))))
    start is_start (λ set closed. closed.begins)
  where
    -- the state holds no atom but those reached from the first one
    Within : List Bool → Type 0
    Within s = (set : ℕ → Bool) → ClosedAtoms task start set → HoldsReached set s

pub pairs_dead_from : (task : Strips) → AreDead task (PairsExcludeFrom task)
pairs_dead_from task start is_start out =
    progress task Within (λ _. ⊥)
    (λ s k a is_state at applies holds no.
    no (inl (λ set closed. pairs_stay task start set closed k a at s applies (holds set closed))))
    (λ s is_state none. absurd none)
    (λ s is_state (holds, goal).
    absurd (out.4 (λ set closed. holds set closed out.0 out.1 (goal_held task s out.0 goal out.2)
    (goal_held task s out.1 goal out.3))))
    start is_start (λ set closed. closed.begins)
  where
    -- the state holds no pair but those reached from the first one
    Within : List Bool → Type 0
    Within s = (set : ℕ → ℕ → Bool) → ClosedPairs task start set → HoldsPairs set s
