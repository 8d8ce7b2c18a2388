use Rattle.hv_command.proofs.Produced.{relaxed_written}
use Rattle.hv_command.proofs.producing.relaxed_reply.Goals as goal

pub returns-in_ok-answer-in-Some-clause-answer : goal.returns-in_ok-answer-in-Some-clause-answer
returns-in_ok-answer-in-Some-clause-answer c =
    let answer = c.in_ok-answer-in-Some.answer in
    let reply = c.in_ok-answer-in-Some.ensures in
    relaxed_written c.args.task.now c.in_ok-draft.field-0 c.in-Some.draft c.in-Some.is answer.status
    answer.text
    (reply.status_is, reply.text_is) c.in_ok-draft.ensures.some c.in_ok-draft.ensures.lines
