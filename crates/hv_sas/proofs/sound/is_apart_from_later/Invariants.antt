use Rattle.std.proofs.Common.{ℕ, ◌<◌, ◌≢◌, get_or}
use Rattle.hv_sas.specs.declared.sas_task.Effect.{Effect}
use Rattle.hv_sas.proofs.sound.is_apart_from_later.Given as goal

abbrev pub invariant-loop-later : goal.invariant-loop-later
invariant-loop-later l =
    (j : ℕ) (d : Effect) → l.place < j → j < l.later
    → (get_or l.effects l.place d).var ≢ (get_or l.effects j d).var
