use Rattle.hv_replay.proofs.Several.{AnyOf}
use Rattle.hv_command.proofs.OneAnswer.{one_answer}
use Rattle.hv_command.proofs.laws.one_answer.Goals as goal

pub returns : goal.returns
returns g c = λ job held s u t v x y.
    one_answer (λ task state. AnyOf c.args.pruners.now
    (λ b. (goal.Pruner-dyn g (b.vtable, b.value)).covers b.value task state)) job held s u t v x
    y
