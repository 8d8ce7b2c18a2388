use Rattle.hv_replay.proofs.OneHole.{closed_or_hole, one_hole}
use Rattle.hv_replay.proofs.Several.{AnyOf}
use Rattle.hv_replay.proofs.laws.one_first_hole.Goals as goal

pub returns-clause-closed_or_hole : goal.returns-clause-closed_or_hole
returns-clause-closed_or_hole g c = λ task log hole closed is.
    closed_or_hole task log
    (λ state. AnyOf c.args.pruners.now (λ b. (goal.Pruner-dyn g (b.vtable, b.value)).covers b.value
    task state)) hole closed is

pub returns-clause-one_hole : goal.returns-clause-one_hole
returns-clause-one_hole g c = λ task log first second is also.
    one_hole task log
    (λ state. AnyOf c.args.pruners.now (λ b. (goal.Pruner-dyn g (b.vtable, b.value)).covers b.value
    task state)) first second is also
