-- States that satisfy a conjunction of the greatest trap are dead: no action leads out of them, and
-- none is a goal state.
use Rattle.std.proofs.Common.{inl}
use Rattle.std.proofs.lemmas.Bool.{and_parts}
use Rattle.hv_task.specs.Deadness.{AreDead}
use Rattle.hv_task.specs.Strips.{Strips, atoms}
use Rattle.hv_task.proofs.Deadness.{progress}
use Rattle.hv_trap.specs.Conjunctions.{denies_one, is_short}
use Rattle.hv_trap.specs.Trap.{IsSatisfied}
use Rattle.hv_trap.proofs.Trapped.{denied_out}

pub satisfied_dead : (task : Strips) → AreDead task (IsSatisfied task)
satisfied_dead task =
    progress task (IsSatisfied task) (λ _. ⊥)
    (λ s number a is_state named applies (c, (trap, is, there), true_in) no.
    let next = is.stays c there s is_state true_in number a named applies in
    no (inl (next.0, (trap, is, next.1), next.2)))
    (λ s is_state none. absurd none)
    (λ s is_state ((c, (trap, is, there), true_in), goal).
    absurd (denied_out task.goal s goal c
    (and_parts (is_short (atoms task) c) (denies_one task.goal c) (is.candidates c there)).1
    true_in))
