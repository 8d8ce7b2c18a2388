use Rattle.hv_basic.specs.Cases.{lines_in, setting_in}
use Rattle.hv_basic.proofs.LeftSides.{sub_unshaped, verdict_shared}
use Rattle.hv_basic.proofs.Siding.{fault_of}
use Rattle.hv_basic.proofs.shared_verdicts.verdict_of.Goals as goal

pub returns-in-Ok-clause-answer : goal.returns-in-Ok-clause-answer
returns-in-Ok-clause-answer c =
    verdict_shared (setting_in c.args.case.now) (lines_in c.args.case.now) c.args.statement.now
    c.args.word c.in-Sub.left c.in-Sub.right c.in-Ok.verdict c.in-Sub.is c.in-Ok.ensures.answer

pub returns-in-Err-clause-err : goal.returns-in-Err-clause-err
returns-in-Err-clause-err c =
    fault_of _ _ (sub_unshaped (lines_in c.args.case.now) c.args.statement.now c.args.word
    c.in-Sub.left c.in-Sub.right c.in-Sub.is c.in_default-word.not-B4) c.in-Err.fault
    c.in-Err.ensures.err
