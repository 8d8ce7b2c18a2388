use Rattle.std.proofs.Common.{length, subst}
use Rattle.std.specs.Option.{IfSome}
use Rattle.hv_lines.specs.Meaning.{acts_of}
use Rattle.hv_lines.specs.Queries.{has_of}
use Rattle.hv_basic.specs.Cases.{lines_in, setting_in}
use Rattle.hv_basic.specs.Working.Candidates.{AreListedAmong, HaveAllClashes}
use Rattle.hv_basic.specs.Working.Views.{question_of}
use Rattle.hv_basic.proofs.Enough.{among_listed, few_among, few_enough}
use Rattle.hv_basic.proofs.candidates.few_listed.Goals as goal

pub returns-clause-among : goal.returns-clause-among
returns-clause-among c =
    let setting = setting_in c.args.case.now in
    let lines = lines_in c.args.case.now in
    let rising = c.in-Some.ensures in
    few_among setting lines (question_of c.args.question.now) c.args.query.now c.requires.query
    rising.0 rising.1 c.requires.other c.in_ok-few.few
    (among_listed setting.task (has_of setting lines c.args.question.now.family) c.args.query.now
    (acts_of lines rising.0) c.in-Some.listed.now c.in-Some-2.numbers c.in_ok-few.few
    (λ n. (rising.2 n).0) (λ n. (rising.2 n).1)
    (subst (λ o. IfSome o (HaveAllClashes setting.task
    (has_of setting lines c.args.question.now.family) c.args.query.now)) c.in-Some-2.is
    c.in_ok-numbers.ensures)
    (subst (λ xs. AreListedAmong c.in-Some.listed.now xs (length setting.task.actions)
    c.in_ok-few.few) c.as_slice.ensures.items
    (subst (λ x. AreListedAmong c.in-Some.listed.now c.as_slice.result.now x c.in_ok-few.few)
    c.actions-2.ensures.actions c.in_ok-few.ensures)))

pub returns-clause-enough : goal.returns-clause-enough
returns-clause-enough c =
    let setting = setting_in c.args.case.now in
    let lines = lines_in c.args.case.now in
    let rising = c.in-Some.ensures in
    few_enough setting lines (question_of c.args.question.now) c.args.query.now c.requires.query
    rising.0 rising.1 c.requires.other c.in_ok-few.few
    (among_listed setting.task (has_of setting lines c.args.question.now.family) c.args.query.now
    (acts_of lines rising.0) c.in-Some.listed.now c.in-Some-2.numbers c.in_ok-few.few
    (λ n. (rising.2 n).0) (λ n. (rising.2 n).1)
    (subst (λ o. IfSome o (HaveAllClashes setting.task
    (has_of setting lines c.args.question.now.family) c.args.query.now)) c.in-Some-2.is
    c.in_ok-numbers.ensures)
    (subst (λ xs. AreListedAmong c.in-Some.listed.now xs (length setting.task.actions)
    c.in_ok-few.few) c.as_slice.ensures.items
    (subst (λ x. AreListedAmong c.in-Some.listed.now c.as_slice.result.now x c.in_ok-few.few)
    c.actions-2.ensures.actions c.in_ok-few.ensures)))
