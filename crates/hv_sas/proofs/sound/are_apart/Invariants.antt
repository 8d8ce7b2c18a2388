use Rattle.std.proofs.Common.{ℕ, ◌<◌, ◌≢◌, length, get_or}
use Rattle.hv_sas.specs.declared.sas_task.Effect.{Effect}
use Rattle.hv_sas.proofs.sound.are_apart.Given as goal

abbrev pub invariant-loop-place : goal.invariant-loop-place
invariant-loop-place l =
    (i j : ℕ) (d : Effect) → i < l.place → i < j → j < length l.effects
    → (get_or l.effects i d).var ≢ (get_or l.effects j d).var
