use Rattle.hv_replay.proofs.Several.{AnyOf}
use Rattle.hv_command.proofs.Produced.{accepted}
use Rattle.hv_command.proofs.laws.accepted.Goals as goal

pub returns : goal.returns
returns g c = λ job held status text answers.
    accepted (λ task state. AnyOf c.args.pruners.now
    (λ b. (goal.Pruner-dyn g (b.vtable, b.value)).covers b.value task state)) job held status
    text answers
