use Rattle.hv_command.proofs.Produced.{trap_written}
use Rattle.hv_command.proofs.producing.trap_reply.Goals as goal

pub returns-in_ok-answer-in-Ok-Some-clause-answer :
    goal.returns-in_ok-answer-in-Ok-Some-clause-answer
returns-in_ok-answer-in-Ok-Some-clause-answer c =
    let answer = c.in_ok-answer-in-Ok-Some.answer in
    let reply = c.in_ok-answer-in-Ok-Some.ensures in
    trap_written c.args.task.now c.in-Ok-Some.field-0 c.in-Ok-Some.draft c.in-Ok-Some.field-0-is
    answer.status answer.text
    (reply.status_is, reply.text_is) c.in-Ok-Some.ensures.few c.in-Ok-Some.ensures.some
    c.in-Ok-Some.ensures.lines
