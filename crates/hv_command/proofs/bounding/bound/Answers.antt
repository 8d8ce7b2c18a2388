use Rattle.std.proofs.Common.{Err, IfSome, subst}
use Rattle.hv_bytes.specs.Files.{Names, bytes_of}
use Rattle.hv_bytes.specs.Standard.{standard}
use Rattle.hv_task_text.specs.TaskText.{IsTaskReadFrom, TaskText}
use Rattle.hv_command.specs.Answer.{AnswersBound}
use Rattle.hv_command.specs.Replies.{task_fault_text}
use Rattle.hv_command.specs.Working.Replies.{IsTextFault}
use Rattle.hv_command.specs.Working.Reply.{IsReply}
use Rattle.hv_command.specs.declared.status.Status.TheVariants as S
use Rattle.hv_command.proofs.Checked.{on_all, task_answer, task_fault}
use Rattle.hv_command.proofs.bounding.bound.Goals as goal

pub returns-in_ok-answer-in-Ok-clause-answer : goal.returns-in_ok-answer-in-Ok-clause-answer
returns-in_ok-answer-in-Ok-clause-answer g c =
    let answer = c.in_ok-answer-in-Ok.answer in
    task_answer (g.S.Shelf.held c.args.shelf.now) c.args.task.now
    (λ held. AnswersBound c.args.most) c.in-Ok.task answer.status answer.text
    (subst (λ name. IfSome (g.S.Shelf.held c.args.shelf.now)
    (λ (h : Names). TaskText standard (bytes_of h name) c.in-Ok.task)) c.as_str.ensures
    c.in-Ok.ensures.read)
    (on_all (g.S.Shelf.held c.args.shelf.now)
    (AnswersBound c.args.most c.in-Ok.task answer.status answer.text)
    c.in_ok-answer-in-Ok.ensures.answer)

pub returns-in_ok-answer-in-Err-clause-answer : goal.returns-in_ok-answer-in-Err-clause-answer
returns-in_ok-answer-in-Err-clause-answer g c =
    let answer = c.in_ok-answer-in-Err.answer in
    let said : IsReply answer S.BadInput (task_fault_text c.in-Err.fault)
    × IsTextFault c.in-Err.fault = c.in_ok-answer-in-Err.ensures in
    task_fault (g.S.Shelf.held c.args.shelf.now) c.args.task.now
    (λ held. AnswersBound c.args.most) c.in-Err.fault answer.status answer.text
    (subst (λ name. IfSome (g.S.Shelf.held c.args.shelf.now)
    (λ (h : Names). IsTaskReadFrom standard (bytes_of h name) (Err c.in-Err.fault)))
    c.as_str.ensures c.in-Err.ensures.read)
    said.1 said.0.status_is said.0.text_is
