use Rattle.std.proofs.Common.{◌≡◌, ◌∙◌, true, false, length, subst}
use Rattle.hv_sets.specs.Truth.{in_clauses}
use Rattle.hv_propagation.specs.Chase.{AreKept, IsFollowed}
use Rattle.hv_propagation.specs.Marks.{over}
use Rattle.hv_clauses.proofs.Problems.{followed_empty, followed_in, left_in}
use Rattle.hv_clauses.proofs.problem.start_whole.Goals as goal

pub returns-in-Start-clause-left : goal.returns-in-Start-clause-left
returns-in-Start-clause-left g c = λ is.
    left_in c.args.problem.now c.args.operand _ c.in-Start.is c.seen-seen.result
    c.seen-seen.ensures c.start_start.new.marks (length c.args.marks.now.trail)
    (c.start_start.ensures.settled is)

pub returns-in-Goal-clause-left : goal.returns-in-Goal-clause-left
returns-in-Goal-clause-left g c = λ is.
    left_in c.args.problem.now c.args.operand _ c.in-Goal.is c.seen-seen.result
    c.seen-seen.ensures c.start_goal.new.marks (length c.args.marks.now.trail)
    (c.start_goal.ensures.settled is)

pub returns-in-Set-clause-left : goal.returns-in-Set-clause-left
returns-in-Set-clause-left g c = λ is.
    let from = length c.args.marks.now.trail in
    left_in c.args.problem.now c.args.operand _ c.in-Set.is c.seen-seen.result c.seen-seen.ensures
    c.start.new.marks from
    (subst (λ clauses. AreKept c.seen-seen.result clauses c.start.new.marks from)
    (c.clauses.ensures.clauses ∙ c.set.ensures.clauses) (c.start.ensures.kept is))

pub returns-in-Empty-clause-followed : goal.returns-in-Empty-clause-followed
returns-in-Empty-clause-followed g c =
    let old = c.args.marks.now in
    followed_in c.args.problem.now c.args.operand _ c.in-Empty.is c.seen-seen.result
    c.seen-seen.ensures old old false
    (followed_empty _ old (λ state holds. let f : false ≡ true = holds in cc))

pub returns-in-Start-clause-followed : goal.returns-in-Start-clause-followed
returns-in-Start-clause-followed g c =
    followed_in c.args.problem.now c.args.operand _ c.in-Start.is c.seen-seen.result
    c.seen-seen.ensures c.args.marks.now c.start_start.new.marks c.start_start.result
    c.start_start.ensures.followed

pub returns-in-Goal-clause-followed : goal.returns-in-Goal-clause-followed
returns-in-Goal-clause-followed g c =
    followed_in c.args.problem.now c.args.operand _ c.in-Goal.is c.seen-seen.result
    c.seen-seen.ensures c.args.marks.now c.start_goal.new.marks c.start_goal.result
    c.start_goal.ensures.followed

pub returns-in-Set-clause-followed : goal.returns-in-Set-clause-followed
returns-in-Set-clause-followed g c =
    let old = c.args.marks.now in
    let new = c.start.new.marks in
    followed_in c.args.problem.now c.args.operand _ c.in-Set.is c.seen-seen.result
    c.seen-seen.ensures old new c.start.result
    (subst (λ clauses. IsFollowed (λ s. in_clauses clauses (over c.seen-seen.result s) ≡ true) old
    new c.start.result) (c.clauses.ensures.clauses ∙ c.set.ensures.clauses)
    c.start.ensures.followed)
