use Rattle.std.proofs.Common.{◌≡◌, ◌++◌, IfErr, IfOk, arith, drop, length, sym, take}
use Rattle.hv_replay.specs.Closed.{IsClosed, IsFirstHole}
use Rattle.hv_replay.specs.declared.hole.ReplayFault.TheVariants as H
use Rattle.hv_replay.proofs.Alike.{AlikeOf}
use Rattle.hv_replay.proofs.Several.{AnyOf, over_list, written_back}
use Rattle.hv_replay.proofs.log_proof.replay.Goals as goal

pub returns-clause-closed : goal.returns-clause-closed
returns-clause-closed g c =
    over_list c.as_mut_slice.result.now c.args.pruners.now.items
    (λ pruners. IfOk c.replay_by.result (λ _. IsClosed c.args.task.now c.args.log.now
    (λ state. AnyOf pruners (λ b. (goal.Pruner-dyn g (b.vtable, b.value)).covers b.value
    c.args.task.now state))))
    c.as_mut_slice.ensures.value c.replay_by.ensures.closed

pub returns-clause-hole : goal.returns-clause-hole
returns-clause-hole g c =
    over_list c.as_mut_slice.result.now c.args.pruners.now.items
    (λ pruners. IfErr c.replay_by.result (λ fault. (fault ≡ H.Memory → ⊥)
    → IsFirstHole c.args.task.now c.args.log.now
    (λ state. AnyOf pruners (λ b. (goal.Pruner-dyn g (b.vtable, b.value)).covers b.value
    c.args.task.now state)) fault))
    c.as_mut_slice.ensures.value c.replay_by.ensures.hole

pub returns-clause-covers : goal.returns-clause-covers
returns-clause-covers g c =
    let new = c.replay_by.new.pruners in
    let old = c.args.pruners.now.items in
    let size : length c.replay_by.new.pruners
    ≡ c.args.pruners.now.len = omega (
      arith,
      c.replay_by.auto.pruners,
      c.as_mut_slice.ensures.len,
    ) in
    over_list new (take c.args.pruners.now.len (new ++ drop (length new) old))
    (λ pruners. AlikeOf pruners old (λ b. (goal.Pruner-dyn g (b.vtable, b.value)).covers b.value))
    (sym (written_back c.args.pruners.now.len new (drop (length new) old) size))
    (over_list c.as_mut_slice.result.now old
    (λ pruners. AlikeOf new pruners (λ b. (goal.Pruner-dyn g (b.vtable, b.value)).covers b.value))
    c.as_mut_slice.ensures.value c.replay_by.ensures.covers)
