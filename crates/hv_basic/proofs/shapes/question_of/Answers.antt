use Rattle.hv_basic.proofs.Siding.{fault_of, left_part}
use Rattle.hv_basic.proofs.shapes.question_of.Goals as goal

pub returns-clause-err : goal.returns-clause-err
returns-clause-err c =
    fault_of _ _
    (λ out question is. out question.acts (left_part c.args.table.now.lines c.args.claim.word
    c.args.claim.left c.args.claim.right question.acts is.sides)) c.in-Err.fault
    c.in-Err.ensures.err
