use Rattle.std.proofs.Common.{◌∙◌, Option, subst, sym}
use Rattle.hv_replay.proofs.Several.{AnyOf}
use Rattle.hv_command.specs.Answer.{AnswersTold}
use Rattle.hv_command.specs.declared.job.Job.{Job}
use Rattle.hv_command.proofs.top.answer.Goals as goal

pub returns-in_ok-reply-in-Some-clause-answer : goal.returns-in_ok-reply-in-Some-clause-answer
returns-in_ok-reply-in-Some-clause-answer g c =
    let reply = c.in_ok-reply-in-Some.reply in
    subst (λ (job : Option Job). AnswersTold
    (λ task state. AnyOf c.args.pruners.now.items
    (λ b. (goal.Pruner-dyn g (b.vtable, b.value)).covers b.value task state))
    job (g.S.Shelf.held c.args.shelf.now) reply.status reply.text)
    (sym c.in-Some.is ∙ c.in_ok-read_job.ensures.job) c.in_ok-reply-in-Some.ensures.answer
