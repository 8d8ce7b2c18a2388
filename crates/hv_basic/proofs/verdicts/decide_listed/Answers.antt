use Rattle.std.proofs.Common.{◌∙◌, map, subst, sym}
use Rattle.hv_task.specs.Strips.{atoms}
use Rattle.hv_explicit.specs.ListedStates.{AreListsOver}
use Rattle.hv_lines.specs.Queries.{listed_of}
use Rattle.hv_basic.specs.Working.Asked.{with_action}
use Rattle.hv_basic.proofs.Storing.{listed_over, listed_decided}
use Rattle.hv_basic.proofs.verdicts.decide_listed.Goals as goal

pub walk-requires-clause-task : goal.walk-requires-clause-task
walk-requires-clause-task c =
    subst (λ s. AreListsOver s (atoms c.args.case.now.task.now))
    (sym (c.listed-sets.ensures ∙ c.args.case.now.stored.listed))
    (listed_over (atoms c.args.case.now.task.now) (listed_of c.args.case.now.table.now.lines))

pub returns-clause-answer : goal.returns-clause-answer
returns-clause-answer c =
    listed_decided (atoms c.args.case.now.task.now) (listed_of c.args.case.now.table.now.lines)
    c.args.case.now.task.now
    c.args.case.now.budget (atoms c.args.case.now.task.now)
    (map (with_action c.args.query.now) c.args.actions.now) c.in_ok-verdict.verdict
    c.listed-sets.result.now
    (c.listed-sets.ensures ∙ c.args.case.now.stored.listed)
    c.in_ok-verdict.ensures.answer
