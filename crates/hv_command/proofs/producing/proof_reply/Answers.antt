use Rattle.std.proofs.Common.{IfOk, subst, sym}
use Rattle.hv_command.specs.Answer.{AnswersProduce}
use Rattle.hv_command.proofs.producing.proof_reply.Goals as goal

pub returns-in-Relaxed-clause-answer : goal.returns-in-Relaxed-clause-answer
returns-in-Relaxed-clause-answer c =
    subst (λ kind. IfOk c.relaxed_reply.result
    (λ r. AnswersProduce kind c.args.task.now r.status r.text)) (sym c.in-Relaxed.is)
    c.relaxed_reply.ensures.answer

pub returns-in-Pairs-clause-answer : goal.returns-in-Pairs-clause-answer
returns-in-Pairs-clause-answer c =
    subst (λ kind. IfOk c.pairs_reply.result
    (λ r. AnswersProduce kind c.args.task.now r.status r.text)) (sym c.in-Pairs.is)
    c.pairs_reply.ensures.answer

pub returns-in-Trap-clause-answer : goal.returns-in-Trap-clause-answer
returns-in-Trap-clause-answer c =
    subst (λ kind. IfOk c.trap_reply.result
    (λ r. AnswersProduce kind c.args.task.now r.status r.text)) (sym c.in-Trap.is)
    c.trap_reply.ensures.answer
