use Rattle.std.proofs.Common.{Err, Ok, IfSome, subst}
use Rattle.hv_bytes.specs.Files.{Names, bytes_of}
use Rattle.hv_bytes.specs.Standard.{standard}
use Rattle.hv_sas.specs.Answer.{IsSasReadFrom}
use Rattle.hv_command.specs.Answer.{AnswersSas}
use Rattle.hv_command.specs.Replies.{sas_fault_text}
use Rattle.hv_command.specs.Working.Replies.{IsSasFault}
use Rattle.hv_command.specs.Working.Reply.{IsReply}
use Rattle.hv_command.specs.declared.status.Status.TheVariants as S
use Rattle.hv_command.proofs.Checked.{sas_text_answer, sas_text_fault}
use Rattle.hv_command.proofs.translating.translate.Goals as goal

pub returns-in_ok-answer-in-Ok-clause-answer : goal.returns-in_ok-answer-in-Ok-clause-answer
returns-in_ok-answer-in-Ok-clause-answer g c =
    let answer = c.in_ok-answer-in-Ok.answer in
    sas_text_answer (g.S.Shelf.held c.args.shelf.now) c.args.file.now AnswersSas c.in-Ok.sas
    answer.status answer.text
    (subst (λ name. IfSome (g.S.Shelf.held c.args.shelf.now)
    (λ (h : Names). IsSasReadFrom standard (bytes_of h name) (Ok c.in-Ok.sas)))
    c.as_str.ensures c.in-Ok.ensures.read)
    c.in_ok-answer-in-Ok.ensures.answer

pub returns-in_ok-answer-in-Err-clause-answer : goal.returns-in_ok-answer-in-Err-clause-answer
returns-in_ok-answer-in-Err-clause-answer g c =
    let answer = c.in_ok-answer-in-Err.answer in
    let said : IsReply answer S.BadInput (sas_fault_text c.in-Err.fault)
    × IsSasFault c.in-Err.fault = c.in_ok-answer-in-Err.ensures in
    sas_text_fault (g.S.Shelf.held c.args.shelf.now) c.args.file.now AnswersSas c.in-Err.fault
    answer.status answer.text
    (subst (λ name. IfSome (g.S.Shelf.held c.args.shelf.now)
    (λ (h : Names). IsSasReadFrom standard (bytes_of h name) (Err c.in-Err.fault)))
    c.as_str.ensures c.in-Err.ensures.read)
    said.1 said.0.status_is said.0.text_is
