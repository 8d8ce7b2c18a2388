use Rattle.std.proofs.Common.{◌∙◌, ◌+◌, List, ap, get_or, length, subst, sym}
use Rattle.std.proofs.lemmas.Option.{get_or_from_slice_get, slice_get_past}
use Rattle.hv_sets.specs.declared.operand.Operand.{Operand}
use Rattle.hv_sets.specs.Query.{IsNamed}
use Rattle.hv_propagation.specs.Chase.{IsFollowed}
use Rattle.hv_propagation.proofs.Chasing.{followed_none}
use Rattle.hv_clauses.specs.Working.Posed.{InEach}
use Rattle.hv_clauses.specs.Working.Problem.{InOne, IsLeftOf}
use Rattle.hv_clauses.proofs.Problems.{operand_followed, operand_left}
use Rattle.hv_clauses.proofs.problem.visit_place.Goals as goal

pub returns-in-None-clause-followed : goal.returns-in-None-clause-followed
returns-in-None-clause-followed g c =
    followed_none (InEach c.args.problem.now) c.args.marks.now

pub returns-in-None-clause-left : goal.returns-in-None-clause-left
returns-in-None-clause-left g c = λ _ operand here.
    let none = slice_get_past c.positive.result.now c.args.place c.in-None.ensures.lookup.3 in
    let same = c.positive.ensures.list in
    absurd cc

pub visit_operand-requires-clause-named : goal.visit_operand-requires-clause-named
visit_operand-requires-clause-named g c =
    let found = c.in-Some.ensures.lookup in
    subst (λ (o : Operand). IsNamed (length c.args.problem.now.store) o.which) (sym found.1)
    (c.positive.ensures.named c.args.place c.in-Some.operand.now found.3.0)

pub visit_operand-requires-clause-left : goal.visit_operand-requires-clause-left
visit_operand-requires-clause-left g c =
    let p = c.args.problem.now in
    let found = c.in-Some.ensures.lookup in
    subst (λ (o : Operand). IsLeftOf p o c.args.marks.now c.args.from) (sym found.1)
    (operand_left p c.positive.result.now c.positive.ensures.list c.args.place
    c.in-Some.operand.now found.3.0 c.args.marks.now c.args.from c.requires.left)

pub returns-in-Some-clause-followed : goal.returns-in-Some-clause-followed
returns-in-Some-clause-followed g c =
    let p = c.args.problem.now in
    let old = c.args.marks.now in
    let new = c.visit_operand.new.marks in
    let found = c.in-Some.ensures.lookup in
    operand_followed p c.positive.result.now c.positive.ensures.list c.args.place
    c.in-Some.operand.now found.3.0 old old new c.visit_operand.result
    (followed_none (InEach p) old)
    (subst (λ (o : Operand). IsFollowed (InOne p o) old new c.visit_operand.result) found.1
    c.visit_operand.ensures.followed)

pub returns-in-Some-clause-left : goal.returns-in-Some-clause-left
returns-in-Some-clause-left g c = λ is operand here.
    let p = c.args.problem.now in
    let own = c.in-Some.operand.now in
    let place = c.args.place in
    subst (λ (o : Operand). IsLeftOf p o c.visit_operand.new.marks (c.args.from + 1))
    (c.in-Some.ensures.lookup.1
    ∙ (ap (λ (os : List Operand). get_or os place own) c.positive.ensures.list
    ∙ get_or_from_slice_get p.query.positive place operand own here))
    (c.visit_operand.ensures.left is)
