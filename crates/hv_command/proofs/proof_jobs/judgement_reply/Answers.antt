use Rattle.hv_command.specs.Replies.{refused_text}
use Rattle.hv_command.specs.Working.Reply.{IsReply}
use Rattle.hv_command.specs.declared.status.Status.TheVariants as S
use Rattle.hv_command.proofs.Checked.{refused_reply}
use Rattle.hv_command.proofs.proof_jobs.judgement_reply.Goals as goal

pub returns-in_ok-answer-in-Refused-clause-answer :
    goal.returns-in_ok-answer-in-Refused-clause-answer
returns-in_ok-answer-in-Refused-clause-answer c =
    let reply : IsReply c.in_ok-answer-in-Refused.answer S.Refused
    (refused_text c.in-Refused.line c.reason_of.result.now) =
    c.in_ok-answer-in-Refused.ensures in
    refused_reply c.args.report c.args.checker.now c.in-Refused.line c.reason_of.result.now
    c.end.result c.in_ok-answer-in-Refused.answer.status c.in_ok-answer-in-Refused.answer.text
    c.in-Refused.is c.end.ensures.judged c.reason_of.ensures reply.status_is reply.text_is
