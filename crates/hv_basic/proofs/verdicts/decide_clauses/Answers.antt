use Rattle.std.proofs.Common.{map}
use Rattle.hv_task.specs.Strips.{atoms}
use Rattle.hv_basic.specs.Working.Asked.{with_action}
use Rattle.hv_basic.proofs.Storing.{sets_decided}
use Rattle.hv_basic.proofs.verdicts.decide_clauses.Goals as goal

pub returns-clause-answer : goal.returns-clause-answer
returns-clause-answer g c = λ lists is.
    sets_decided (atoms c.args.case.now.task.now) lists c.args.sets.now is c.args.case.now.task.now
    c.args.case.now.budget (atoms c.args.case.now.task.now)
    (map (with_action c.args.query.now) c.args.actions.now) c.in_ok-verdict.verdict
    c.in_ok-verdict.ensures.answer
