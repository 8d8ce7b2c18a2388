use Rattle.std.proofs.Common.{◌∙◌, ◌+◌, ◌<◌, ◌/◌, ◌%◌, refl, sym, arith, subst}
use Rattle.std.proofs.lemmas.Nat.{mod_below}
use Rattle.hv_clauses.specs.Working.Front.{IsFront}
use Rattle.hv_clauses.specs.Working.Posed.{size_in, sizes}
use Rattle.hv_propagation.specs.Trail.{Grows, Knowledge}
use Rattle.hv_propagation.proofs.Chasing.{grows_same}
use Rattle.hv_clauses.proofs.Deciding.{named_some}
use Rattle.hv_clauses.proofs.Digits.{count_some, held_within, open_advanced, open_count, open_few}
use Rattle.hv_clauses.proofs.Digits.{open_front, open_held, open_less, open_more, open_part}
use Rattle.hv_clauses.proofs.Digits.{open_refuted}
use Rattle.hv_clauses.proofs.fronts.first_open.Goals as goal

pub count_of-count-requires : goal.count_of-count-requires
count_of-count-requires g c =
    let p = c.args.problem.now in
    named_some p c.args.operand.which
    (count_some p.task (sizes p) p.query.negative c.args.place c.args.operand c.requires.here
    (omega (arith, c.requires.next)))

pub nonzero_div-first : goal.nonzero_div-first
nonzero_div-first g c =
    let p = c.args.problem.now in
    open_part p c.args.place c.args.next c.args.part _ c.args.operand c.requires.here
    c.requires.part c.count_of-count.ensures c.requires.next

pub nonzero_div-end : goal.nonzero_div-end
nonzero_div-end g c =
    let p = c.args.problem.now in
    open_count p c.args.place c.args.next c.args.part _ c.args.operand c.requires.here
    c.requires.part c.count_of-count.ensures c.requires.next

pub overflow_mul-end : goal.overflow_mul-end
overflow_mul-end g c =
    let p = c.args.problem.now in
    let few = open_few p c.args.place c.args.next c.args.part _ c.args.operand c.requires.here
    c.requires.part c.count_of-count.ensures c.requires.next in
    omega (arith, few, c.requires.few)

pub held_from-requires : goal.held_from-requires
held_from-requires g c =
    let p = c.args.problem.now in
    let o = c.args.operand in
    let some = open_count p c.args.place c.args.next c.args.part _ o c.requires.here
    c.requires.part c.count_of-count.ensures c.requires.next in
    subst (λ n. c.loop-rest.rest % c.count_of-count.result < n) c.count_of-count.ensures
    (mod_below c.loop-rest.rest c.count_of-count.result some)

pub overflow_add-at : goal.overflow_add-at
overflow_add-at g c =
    let p = c.args.problem.now in
    let few = open_few p c.args.place c.args.next c.args.part _ c.args.operand c.requires.here
    c.requires.part c.count_of-count.ensures c.requires.next in
    let within = held_within p c.args.place c.args.next c.args.part _ c.args.operand c.requires.here
    c.requires.part c.count_of-count.ensures c.requires.next c.loop-rest.rest c.held_from.result
    c.held_from.ensures.within c.loop-rest.invariant.ahead c.loop-rest-test.true in
    omega (arith, few, within, c.requires.few)

pub returns-then-at-end-clause-open : goal.returns-then-at-end-clause-open
returns-then-at-end-clause-open g c =
    let p = c.args.problem.now in
    open_refuted p c.args.place c.args.next c.args.part _ c.args.operand c.requires.here
    c.requires.part c.count_of-count.ensures c.requires.next
    (c.loop-rest.rest + c.held_from.result) (omega arith)
    (open_held p c.args.place c.args.next c.args.part _ c.args.operand c.requires.here
    c.requires.part c.count_of-count.ensures c.requires.next c.loop-rest.rest c.held_from.result
    c.held_from.ensures.within c.loop-rest.invariant.none c.held_from.ensures.held)

pub fix-requires-clause-front : goal.fix-requires-clause-front
fix-requires-clause-front g c =
    let p = c.args.problem.now in
    let at = c.loop-rest.rest + c.held_from.result in
    subst (λ (k : Knowledge). IsFront p (c.args.place + 1)
    (at / size_in p c.args.operand.which) k) (sym c.loop-rest.invariant.same)
    (subst (λ n. IsFront p (c.args.place + 1) n c.args.marks.now)
    (open_front p c.args.place c.args.next c.args.part _ c.args.operand c.requires.here
    c.requires.part c.count_of-count.ensures c.requires.next at
    (omega (arith, c.loop-rest.invariant.ahead)) (omega arith)) c.requires.front)

pub first_in-requires-clause-some : goal.first_in-requires-clause-some
first_in-requires-clause-some g c =
    let p = c.args.problem.now in
    open_part p c.args.place c.args.next c.args.part _ c.args.operand c.requires.here
    c.requires.part c.count_of-count.ensures c.requires.next

pub first_in-requires-clause-ahead : goal.first_in-requires-clause-ahead
first_in-requires-clause-ahead g c = omega (arith, c.loop-rest.invariant.ahead)

pub first_in-requires-clause-few : goal.first_in-requires-clause-few
first_in-requires-clause-few g c =
    let p = c.args.problem.now in
    let less = open_less p c.args.place c.args.next c.args.part _ c.args.operand c.requires.here
    c.requires.part c.count_of-count.ensures c.requires.next
    (c.loop-rest.rest + c.held_from.result) (omega arith) in
    omega (arith, less, c.requires.few)

pub returns-then-fix-clause-open : goal.returns-then-fix-clause-open
returns-then-fix-clause-open g c =
    let p = c.args.problem.now in
    open_advanced p c.args.place c.args.next c.args.part _ c.args.operand c.requires.here
    c.requires.part c.count_of-count.ensures c.requires.next
    (c.loop-rest.rest + c.held_from.result) c.first_in.result c.fix.new.marks
    c.first_in.ensures.ahead c.first_in.ensures.inside (omega arith)
    (open_held p c.args.place c.args.next c.args.part _ c.args.operand c.requires.here
    c.requires.part c.count_of-count.ensures c.requires.next c.loop-rest.rest c.held_from.result
    c.held_from.ensures.within c.loop-rest.invariant.none c.held_from.ensures.held)
    c.first_in.ensures.before (c.if-fix.ensures.front refl)

pub loop-rest-preserved : goal.loop-rest-preserved
loop-rest-preserved g c =
    let p = c.args.problem.now in
    record {
      ahead = omega (arith, c.loop-rest.invariant.ahead);
      none = open_more p c.args.place c.args.next c.args.part _ c.args.operand c.requires.here
          c.requires.part c.count_of-count.ensures c.requires.next
          (c.loop-rest.rest + c.held_from.result)
          (open_held p c.args.place c.args.next c.args.part _ c.args.operand c.requires.here
          c.requires.part c.count_of-count.ensures c.requires.next c.loop-rest.rest
          c.held_from.result c.held_from.ensures.within c.loop-rest.invariant.none
          c.held_from.ensures.held)
          (c.if-fix.ensures.never refl);
      same = c.if-fix.ensures.same refl ∙ c.loop-rest.invariant.same;
    }

pub overflow_add-rest : goal.overflow_add-rest
overflow_add-rest g c =
    let p = c.args.problem.now in
    let few = open_few p c.args.place c.args.next c.args.part _ c.args.operand c.requires.here
    c.requires.part c.count_of-count.ensures c.requires.next in
    let less = c.if-at-end.false in
    omega (arith, few, c.requires.few)

pub returns-clause-open : goal.returns-clause-open
returns-clause-open g c =
    let p = c.args.problem.now in
    let end = c.loop-rest-test.false in
    open_refuted p c.args.place c.args.next c.args.part _ c.args.operand c.requires.here
    c.requires.part c.count_of-count.ensures c.requires.next c.loop-rest.rest (omega arith)
    c.loop-rest.invariant.none

pub fix-requires-clause-here : goal.fix-requires-clause-here
fix-requires-clause-here g c = c.requires.here

pub fix-requires-clause-some : goal.fix-requires-clause-some
fix-requires-clause-some g c =
    let p = c.args.problem.now in
    subst (λ n. 0 < n) c.count_of-count.ensures
    (open_count p c.args.place c.args.next c.args.part _ c.args.operand c.requires.here
    c.requires.part c.count_of-count.ensures c.requires.next)

pub returns-then-at-end-clause-grown : goal.returns-then-at-end-clause-grown
returns-then-at-end-clause-grown g c =
    subst (λ (k : Knowledge). Grows c.args.marks.now k) (sym c.loop-rest.invariant.same)
    (grows_same c.args.marks.now)

pub returns-then-fix-clause-grown : goal.returns-then-fix-clause-grown
returns-then-fix-clause-grown g c =
    subst (λ (k : Knowledge). Grows k c.fix.new.marks) c.loop-rest.invariant.same
    c.if-fix.ensures.grown

pub returns-clause-grown : goal.returns-clause-grown
returns-clause-grown g c =
    subst (λ (k : Knowledge). Grows c.args.marks.now k) (sym c.loop-rest.invariant.same)
    (grows_same c.args.marks.now)
