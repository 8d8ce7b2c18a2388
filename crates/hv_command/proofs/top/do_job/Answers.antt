use Rattle.std.proofs.Common.{inl, refl}
use Rattle.hv_replay.proofs.Several.{AnyOf}
use Rattle.hv_command.specs.declared.job.Job.TheVariants as J
use Rattle.hv_command.proofs.Checked.{of_file, told_job, told_result, told_sample}
use Rattle.hv_command.proofs.top.do_job.Goals as goal

pub returns-in_ok-reply-in-Check-clause-answer : goal.returns-in_ok-reply-in-Check-clause-answer
returns-in_ok-reply-in-Check-clause-answer g c =
    let reply = c.in_ok-reply-in-Check.reply in
    let file = c.new-proof.ensures in
    told_job (λ task state. AnyOf c.args.pruners.now.items
    (λ b. (goal.Pruner-dyn g (b.vtable, b.value)).covers b.value task state))
    (J.Check c.in-Check.task c.in-Check.proof c.in-Check.nodes c.in-Check.budget)
    c.args.job.now c.in-Check.task (g.S.Shelf.held c.args.shelf.now) reply.status reply.text
    c.in-Check.is (inl refl)
    (of_file (g.S.Shelf.held c.args.shelf.now) c.in-Check.task c.in-Check.nodes reply.status
    reply.text file.report file.name file.budget c.in_ok-reply-in-Check.ensures.answer)

pub returns-in_ok-reply-in-Explain-clause-answer : goal.returns-in_ok-reply-in-Explain-clause-answer
returns-in_ok-reply-in-Explain-clause-answer g c =
    let reply = c.in_ok-reply-in-Explain.reply in
    let file = c.new-proof-in-Explain.ensures in
    told_job (λ task state. AnyOf c.args.pruners.now.items
    (λ b. (goal.Pruner-dyn g (b.vtable, b.value)).covers b.value task state))
    (J.Explain c.in-Explain.task c.in-Explain.proof c.in-Explain.nodes c.in-Explain.budget)
    c.args.job.now c.in-Explain.task (g.S.Shelf.held c.args.shelf.now) reply.status reply.text
    c.in-Explain.is (inl refl)
    (of_file (g.S.Shelf.held c.args.shelf.now) c.in-Explain.task c.in-Explain.nodes reply.status
    reply.text file.report file.name file.budget c.in_ok-reply-in-Explain.ensures.answer)

pub returns-in_ok-reply-in-Upgrade-clause-answer : goal.returns-in_ok-reply-in-Upgrade-clause-answer
returns-in_ok-reply-in-Upgrade-clause-answer g c =
    let reply = c.in_ok-reply-in-Upgrade.reply in
    let file = c.new-proof-in-Upgrade.ensures in
    told_job (λ task state. AnyOf c.args.pruners.now.items
    (λ b. (goal.Pruner-dyn g (b.vtable, b.value)).covers b.value task state))
    (J.Upgrade c.in-Upgrade.task c.in-Upgrade.proof c.in-Upgrade.nodes c.in-Upgrade.budget)
    c.args.job.now c.in-Upgrade.task (g.S.Shelf.held c.args.shelf.now) reply.status reply.text
    c.in-Upgrade.is (inl refl)
    (of_file (g.S.Shelf.held c.args.shelf.now) c.in-Upgrade.task c.in-Upgrade.nodes reply.status
    reply.text file.report file.name file.budget c.in_ok-reply-in-Upgrade.ensures.answer)

pub returns-in-Produce-clause-answer : goal.returns-in-Produce-clause-answer
returns-in-Produce-clause-answer g c =
    told_result (λ task state. AnyOf c.args.pruners.now.items
    (λ b. (goal.Pruner-dyn g (b.vtable, b.value)).covers b.value task state))
    (J.Produce c.in-Produce.kind c.in-Produce.task) c.args.job.now c.in-Produce.task
    (g.S.Shelf.held c.args.shelf.now) c.produce.result c.in-Produce.is refl
    c.produce.ensures.answer

pub returns-in-Replay-clause-answer : goal.returns-in-Replay-clause-answer
returns-in-Replay-clause-answer g c =
    told_result (λ task state. AnyOf c.args.pruners.now.items
    (λ b. (goal.Pruner-dyn g (b.vtable, b.value)).covers b.value task state))
    (J.Replay c.in-Replay.task c.in-Replay.log) c.args.job.now c.in-Replay.task
    (g.S.Shelf.held c.args.shelf.now) c.replay_files.result c.in-Replay.is (inl refl)
    c.replay_files.ensures.answer

pub returns-in_ok-reply-in-Sample-clause-answer : goal.returns-in_ok-reply-in-Sample-clause-answer
returns-in_ok-reply-in-Sample-clause-answer g c =
    let reply = c.in_ok-reply-in-Sample.reply in
    let said = c.in_ok-reply-in-Sample.ensures in
    told_sample (λ task state. AnyOf c.args.pruners.now.items
    (λ b. (goal.Pruner-dyn g (b.vtable, b.value)).covers b.value task state))
    _ c.args.job.now (g.S.Shelf.held c.args.shelf.now) reply.status reply.text c.in-Sample.is
    said.status_is said.text_is

pub returns-in-Sas-clause-answer : goal.returns-in-Sas-clause-answer
returns-in-Sas-clause-answer g c =
    told_result (λ task state. AnyOf c.args.pruners.now.items
    (λ b. (goal.Pruner-dyn g (b.vtable, b.value)).covers b.value task state))
    (J.Sas c.in-Sas.file) c.args.job.now c.in-Sas.file
    (g.S.Shelf.held c.args.shelf.now) c.translate.result c.in-Sas.is refl
    c.translate.ensures.answer

pub returns-in-Bound-clause-answer : goal.returns-in-Bound-clause-answer
returns-in-Bound-clause-answer g c =
    told_result (λ task state. AnyOf c.args.pruners.now.items
    (λ b. (goal.Pruner-dyn g (b.vtable, b.value)).covers b.value task state))
    (J.Bound c.in-Bound.task c.in-Bound.most) c.args.job.now c.in-Bound.task
    (g.S.Shelf.held c.args.shelf.now) c.bound.result c.in-Bound.is refl
    c.bound.ensures.answer

pub returns-in-Plan-clause-answer : goal.returns-in-Plan-clause-answer
returns-in-Plan-clause-answer g c =
    told_result (λ task state. AnyOf c.args.pruners.now.items
    (λ b. (goal.Pruner-dyn g (b.vtable, b.value)).covers b.value task state))
    (J.Plan c.in-Plan.task c.in-Plan.plan) c.args.job.now c.in-Plan.task
    (g.S.Shelf.held c.args.shelf.now) c.plan_files.result c.in-Plan.is (inl refl)
    c.plan_files.ensures.answer
