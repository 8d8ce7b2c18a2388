use Rattle.std.proofs.Common.{Err, Ok, IfSome, subst}
use Rattle.hv_bytes.specs.Files.{Names, bytes_of}
use Rattle.hv_bytes.specs.Pieces.{pieces_of}
use Rattle.hv_bound.specs.PlanFile.{IsPlanRead, plan_file, plan_limits}
use Rattle.hv_command.specs.Answer.{AnswersPlan}
use Rattle.hv_command.specs.Replies.{plan_fault_text}
use Rattle.hv_command.specs.Working.Replies.{IsPlanFault}
use Rattle.hv_command.specs.Working.Reply.{IsReply}
use Rattle.hv_command.specs.declared.status.Status.TheVariants as S
use Rattle.hv_command.proofs.Checked.{plan_text_answer, plan_text_fault}
use Rattle.hv_command.proofs.planning.plan_of_task.Goals as goal

pub returns-in_ok-answer-in-Ok-clause-answer : goal.returns-in_ok-answer-in-Ok-clause-answer
returns-in_ok-answer-in-Ok-clause-answer g c =
    let answer = c.in_ok-answer-in-Ok.answer in
    plan_text_answer (g.S.Shelf.held c.args.shelf.now) c.args.plan.now
    (AnswersPlan c.args.task.now) c.in-Ok.list answer.status answer.text
    (subst (λ name. IfSome (g.S.Shelf.held c.args.shelf.now)
    (λ (h : Names). IsPlanRead (plan_file 0 (pieces_of plan_limits (bytes_of h name)))
    (Ok c.in-Ok.list)))
    c.as_str.ensures c.in-Ok.ensures.read)
    c.in_ok-answer-in-Ok.ensures.answer

pub returns-in_ok-answer-in-Err-clause-answer : goal.returns-in_ok-answer-in-Err-clause-answer
returns-in_ok-answer-in-Err-clause-answer g c =
    let answer = c.in_ok-answer-in-Err.answer in
    let said : IsReply answer S.BadInput (plan_fault_text c.in-Err.fault)
    × IsPlanFault c.in-Err.fault = c.in_ok-answer-in-Err.ensures in
    plan_text_fault (g.S.Shelf.held c.args.shelf.now) c.args.plan.now
    (AnswersPlan c.args.task.now) c.in-Err.fault answer.status answer.text
    (subst (λ name. IfSome (g.S.Shelf.held c.args.shelf.now)
    (λ (h : Names). IsPlanRead (plan_file 0 (pieces_of plan_limits (bytes_of h name)))
    (Err c.in-Err.fault)))
    c.as_str.ensures c.in-Err.ensures.read)
    said.1 said.0.status_is said.0.text_is
