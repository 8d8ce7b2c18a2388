use Rattle.hv_replay.proofs.Alike.{alike_then, any_alike}
use Rattle.hv_replay.proofs.Replaying.{result_closed, result_hole}
use Rattle.hv_replay.proofs.Several.{AnyOf}
use Rattle.hv_replay.proofs.log_proof.replay_by.Goals as goal

pub returns-clause-closed : goal.returns-clause-closed
returns-clause-closed g c =
    result_closed c.args.task.now c.args.log.now
    (λ state. AnyOf c.begin_all.new.pruners
    (λ b. (goal.Pruner-dyn g (b.vtable, b.value)).covers b.value c.args.task.now state))
    (λ state. AnyOf c.args.pruners.now (λ b. (goal.Pruner-dyn g (b.vtable, b.value)).covers b.value
    c.args.task.now state))
    (any_alike c.begin_all.new.pruners (λ b. (goal.Pruner-dyn g (b.vtable, b.value)).covers b.value)
    c.args.pruners.now
    c.begin_all.ensures.covers c.args.task.now) c.replay_begun.result c.replay_begun.ensures.closed

pub returns-clause-hole : goal.returns-clause-hole
returns-clause-hole g c =
    result_hole c.args.task.now c.args.log.now
    (λ state. AnyOf c.begin_all.new.pruners
    (λ b. (goal.Pruner-dyn g (b.vtable, b.value)).covers b.value c.args.task.now state))
    (λ state. AnyOf c.args.pruners.now (λ b. (goal.Pruner-dyn g (b.vtable, b.value)).covers b.value
    c.args.task.now state))
    (any_alike c.begin_all.new.pruners (λ b. (goal.Pruner-dyn g (b.vtable, b.value)).covers b.value)
    c.args.pruners.now
    c.begin_all.ensures.covers c.args.task.now) c.replay_begun.result c.replay_begun.ensures.hole

pub returns-clause-covers : goal.returns-clause-covers
returns-clause-covers g c =
    alike_then c.replay_begun.new.pruners (λ b. (goal.Pruner-dyn g (b.vtable, b.value)).covers
    b.value) c.begin_all.new.pruners
    c.args.pruners.now c.replay_begun.ensures.covers c.begin_all.ensures.covers
