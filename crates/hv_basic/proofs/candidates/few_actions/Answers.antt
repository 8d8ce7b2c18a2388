use Rattle.std.proofs.Common.{subst}
use Rattle.std.specs.Option.{IfSome}
use Rattle.hv_lines.specs.Meaning.{acts_of}
use Rattle.hv_lines.specs.Queries.{has_of}
use Rattle.hv_basic.specs.Cases.{lines_in, setting_in}
use Rattle.hv_basic.specs.Working.Candidates.{HaveAllClashes}
use Rattle.hv_basic.specs.Working.Views.{question_of}
use Rattle.hv_basic.proofs.Enough.{among_all, few_among, few_enough}
use Rattle.hv_basic.proofs.candidates.few_actions.Goals as goal

pub returns-then-is_over_all-clause-among : goal.returns-then-is_over_all-clause-among
returns-then-is_over_all-clause-among c =
    let setting = setting_in c.args.case.now in
    let lines = lines_in c.args.case.now in
    let every = c.is_over_all.ensures c.if-is_over_all.true in
    few_among setting lines (question_of c.args.question.now) c.args.query.now c.requires.query
    every.0 every.1 (c.is_node.ensures c.if-is_node.false) c.in-Some.numbers
    (among_all setting.task (has_of setting lines c.args.question.now.family) c.args.query.now
    (acts_of lines every.0) c.in-Some.numbers every.2
    (subst (λ o. IfSome o (HaveAllClashes setting.task
    (has_of setting lines c.args.question.now.family) c.args.query.now)) c.in-Some.is
    c.in_ok-numbers.ensures))

pub returns-then-is_over_all-clause-enough : goal.returns-then-is_over_all-clause-enough
returns-then-is_over_all-clause-enough c =
    let setting = setting_in c.args.case.now in
    let lines = lines_in c.args.case.now in
    let every = c.is_over_all.ensures c.if-is_over_all.true in
    few_enough setting lines (question_of c.args.question.now) c.args.query.now c.requires.query
    every.0 every.1 (c.is_node.ensures c.if-is_node.false) c.in-Some.numbers
    (among_all setting.task (has_of setting lines c.args.question.now.family) c.args.query.now
    (acts_of lines every.0) c.in-Some.numbers every.2
    (subst (λ o. IfSome o (HaveAllClashes setting.task
    (has_of setting lines c.args.question.now.family) c.args.query.now)) c.in-Some.is
    c.in_ok-numbers.ensures))
