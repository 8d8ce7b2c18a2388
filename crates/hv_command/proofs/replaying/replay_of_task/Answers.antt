use Rattle.std.proofs.Common.{Err, Ok, IfSome, subst}
use Rattle.hv_bytes.specs.Files.{Names, bytes_of}
use Rattle.hv_task.specs.Strips.{atoms}
use Rattle.hv_replay.specs.LogText.{IsLogReadFrom}
use Rattle.hv_replay.proofs.Several.{AnyOf}
use Rattle.hv_command.specs.Answer.{AnswersLog}
use Rattle.hv_command.specs.Replies.{log_fault_text}
use Rattle.hv_command.specs.Working.Replies.{IsLogFault}
use Rattle.hv_command.specs.Working.Reply.{IsReply}
use Rattle.hv_command.specs.declared.status.Status.TheVariants as S
use Rattle.hv_command.proofs.Checked.{log_answer, log_fault}
use Rattle.hv_command.proofs.replaying.replay_of_task.Goals as goal

pub returns-in_ok-answer-in-Ok-clause-answer : goal.returns-in_ok-answer-in-Ok-clause-answer
returns-in_ok-answer-in-Ok-clause-answer g c =
    let answer = c.in_ok-answer-in-Ok.answer in
    log_answer c.args.task.now (g.S.Shelf.held c.args.shelf.now) c.args.log.now
    (AnswersLog (λ task state. AnyOf c.args.pruners.now.items
    (λ b. (goal.Pruner-dyn g (b.vtable, b.value)).covers b.value task state)) c.args.task.now)
    c.in-Ok.log answer.status answer.text
    (subst (λ name. IfSome (g.S.Shelf.held c.args.shelf.now)
    (λ (h : Names). IsLogReadFrom (atoms c.args.task.now) (bytes_of h name) (Ok c.in-Ok.log)))
    c.as_str.ensures c.in-Ok.ensures.read)
    c.in_ok-answer-in-Ok.ensures.answer

pub returns-in_ok-answer-in-Err-clause-answer : goal.returns-in_ok-answer-in-Err-clause-answer
returns-in_ok-answer-in-Err-clause-answer g c =
    let answer = c.in_ok-answer-in-Err.answer in
    let said : IsReply answer S.BadInput (log_fault_text c.in-Err.fault)
    × IsLogFault c.in-Err.fault = c.in_ok-answer-in-Err.ensures in
    log_fault c.args.task.now (g.S.Shelf.held c.args.shelf.now) c.args.log.now
    (AnswersLog (λ task state. AnyOf c.args.pruners.now.items
    (λ b. (goal.Pruner-dyn g (b.vtable, b.value)).covers b.value task state)) c.args.task.now)
    c.in-Err.fault answer.status answer.text
    (subst (λ name. IfSome (g.S.Shelf.held c.args.shelf.now)
    (λ (h : Names). IsLogReadFrom (atoms c.args.task.now) (bytes_of h name) (Err c.in-Err.fault)))
    c.as_str.ensures c.in-Err.ensures.read)
    said.1 said.0.status_is said.0.text_is
