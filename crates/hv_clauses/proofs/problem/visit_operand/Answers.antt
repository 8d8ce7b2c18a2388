use Rattle.std.proofs.Common.{◌≡◌, ◌∙◌, ◌+◌, true, sym, subst}
use Rattle.hv_sets.specs.Truth.{in_clauses}
use Rattle.hv_propagation.specs.Marks.{over}
use Rattle.hv_propagation.specs.Chase.{AreKept, IsFollowed}
use Rattle.hv_indexes.specs.Occurrences.{IsIndexOf}
use Rattle.hv_clauses.proofs.Problems.{followed_in, left_from, left_in}
use Rattle.hv_clauses.proofs.problem.visit_operand.Goals as goal

pub visit-requires-clause-index : goal.visit-requires-clause-index
visit-requires-clause-index g c =
    subst (λ clauses. IsIndexOf clauses c.occurs.result.now) (sym c.clauses.ensures.clauses)
    c.occurs.ensures

pub visit-requires-clause-kept : goal.visit-requires-clause-kept
visit-requires-clause-kept g c =
    subst (λ clauses. AreKept c.seen-seen.result clauses c.args.marks.now c.args.from)
    (sym (c.clauses.ensures.clauses ∙ c.set-set.ensures.clauses))
    (left_from c.args.problem.now c.args.operand _ c.in-Set.is c.seen-seen.result
    c.seen-seen.ensures c.args.marks.now c.args.from c.requires.left)

pub returns-clause-followed : goal.returns-clause-followed
returns-clause-followed g c =
    followed_in c.args.problem.now c.args.operand _ c.in-Set.is c.seen-seen.result
    c.seen-seen.ensures c.args.marks.now c.visit.new.marks c.visit.result
    (subst (λ clauses. IsFollowed (λ s. in_clauses clauses (over c.seen-seen.result s) ≡ true)
    c.args.marks.now c.visit.new.marks c.visit.result)
    (c.clauses.ensures.clauses ∙ c.set-set.ensures.clauses) c.visit.ensures.followed)

pub returns-clause-left : goal.returns-clause-left
returns-clause-left g c = λ is.
    left_in c.args.problem.now c.args.operand _ c.in-Set.is c.seen-seen.result c.seen-seen.ensures
    c.visit.new.marks (c.args.from + 1)
    (subst (λ clauses. AreKept c.seen-seen.result clauses c.visit.new.marks (c.args.from + 1))
    (c.clauses.ensures.clauses ∙ c.set-set.ensures.clauses) (c.visit.ensures.kept is))
