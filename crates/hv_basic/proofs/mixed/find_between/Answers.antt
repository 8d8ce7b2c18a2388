use Rattle.hv_basic.proofs.Turning.{found_apart, found_negated, found_plain}
use Rattle.hv_basic.proofs.mixed.find_between.Goals as goal

pub returns-in_ok-found-in-true-true-clause-answer :
    goal.returns-in_ok-found-in-true-true-clause-answer
returns-in_ok-found-in-true-true-clause-answer c =
    found_plain c.args.case.now.task.now c.args.case.now.diagrams.now c.args.case.now.over
    c.args.case.now.budget c.args.left.now.formula c.args.right.now.formula c.requires.left
    c.requires.right c.args.left.now.is_plain c.args.right.now.is_plain c.in-true-true.is-0
    c.in-true-true.is-1 c.in_ok-found-in-true-true.found
    c.find_within.new.scratch.state c.in_ok-found-in-true-true.ensures.answer

pub returns-in_ok-found-in-true-false-clause-answer :
    goal.returns-in_ok-found-in-true-false-clause-answer
returns-in_ok-found-in-true-false-clause-answer c =
    found_apart c.args.case.now.task.now c.args.case.now.diagrams.now c.args.case.now.over
    c.args.case.now.budget c.args.left.now.formula c.args.right.now.formula c.requires.left
    c.requires.right c.args.left.now.is_plain c.args.right.now.is_plain c.in-true-false.is-0
    c.in-true-false.is-1 c.in_ok-found-in-true-false.found
    c.find_apart.new.scratch.state c.in_ok-found-in-true-false.ensures.answer

pub returns-in_ok-found-in-false-false-clause-answer :
    goal.returns-in_ok-found-in-false-false-clause-answer
returns-in_ok-found-in-false-false-clause-answer c =
    found_negated c.args.case.now.task.now c.args.case.now.diagrams.now c.args.case.now.over
    c.args.case.now.budget c.args.left.now.formula c.args.right.now.formula c.requires.left
    c.requires.right c.args.left.now.is_plain c.args.right.now.is_plain c.in-false-false.is-0
    c.in-false-false.is-1 c.in_ok-found-in-false-false.found
    c.find_within-in-false-false.new.scratch.state c.in_ok-found-in-false-false.ensures.answer
