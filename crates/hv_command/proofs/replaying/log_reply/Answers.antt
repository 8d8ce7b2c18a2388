use Rattle.std.proofs.Common.{inl, inr}
use Rattle.hv_command.proofs.replaying.log_reply.Goals as goal

pub returns-in_ok-answer-in-Ok-clause-answer : goal.returns-in_ok-answer-in-Ok-clause-answer
returns-in_ok-answer-in-Ok-clause-answer g c =
    let reply = c.in_ok-answer-in-Ok.ensures in
    let said = c.in-Ok.ensures in
    inl (
      said.closed,
      reply.status_is,
      (
        c.in-Ok.draft.lines,
        record { replayed = said.replayed; good = said.good; concludes = said.concludes },
        reply.text_is,
      ),
    )

pub returns-in_ok-answer-in-Err-clause-answer : goal.returns-in_ok-answer-in-Err-clause-answer
returns-in_ok-answer-in-Err-clause-answer g c =
    let reply = c.in_ok-answer-in-Err.ensures in
    inr (
      c.in-Err.hole,
      c.in-Err.ensures.hole reply.hole,
      reply.reply.status_is,
      reply.reply.text_is,
    )
