use Rattle.std.proofs.Common.{◌≡◌, ◌+◌, ◌∙◌, Some, true, false, length, get_or, slice_get}
use Rattle.std.proofs.Common.{refl, ap, arith, below_more}
use Rattle.hv_sets.specs.declared.operand.Operand.{Operand}
use Rattle.hv_propagation.specs.Effect.{late}
use Rattle.hv_clauses.specs.Working.Posed.{InEach, formulas}
use Rattle.hv_clauses.specs.Working.Problem.{IsLeftOf}
use Rattle.hv_propagation.proofs.Chasing.{followed_none, followed_then, grown_by, longer, read_on}
use Rattle.hv_clauses.proofs.Owned.{owners_left}
use Rattle.hv_clauses.specs.Working.Laws.{all_stay, left_grown}
use Rattle.hv_clauses.proofs.problem.visit_owners.Goals as goal

pub row-row-requires : goal.row-row-requires
row-row-requires g c = (c.args.problem.now, c.requires.owners)

pub loop-place-init : goal.loop-place-init
loop-place-init g c = record {
  followed = followed_none (InEach c.args.problem.now) c.args.marks.now;
  left = c.requires.left;
  seen = λ k less o here. absurd (omega arith);
}

pub visit_place-requires-clause-size : goal.visit_place-requires-clause-size
visit_place-requires-clause-size g c =
    ap length c.loop-place.invariant.followed.roots ∙ c.requires.size

pub visit_place-requires-clause-from : goal.visit_place-requires-clause-from
visit_place-requires-clause-from g c =
    let more = longer _ _ _ _ c.loop-place.invariant.followed in
    let less = c.requires.from in omega arith

pub returns-then-not-visit_place-clause-followed :
    goal.returns-then-not-visit_place-clause-followed
returns-then-not-visit_place-clause-followed g c =
    let P = InEach c.args.problem.now in
    followed_then P P _ _ _ false (λ s size holds. holds) c.loop-place.invariant.followed
    c.if-not-visit_place.ensures.followed

pub loop-place-preserved : goal.loop-place-preserved
loop-place-preserved g c =
    let p = c.args.problem.now in
    let P = InEach p in
    let old = c.loop-place.marks in
    let new = c.visit_place.new.marks in
    let step = c.if-not-visit_place.ensures.followed in
    let grown = grown_by _ _ _ _ step in
    let more = longer _ _ _ _ c.loop-place.invariant.followed in
    let less = c.requires.from in
    record {
      followed = followed_then P P _ _ _ true (λ s size holds. holds)
          c.loop-place.invariant.followed step;
      left = all_stay p old new c.args.from grown (omega arith) c.loop-place.invariant.left;
      seen = below_more (λ k. (o : Operand)
          → slice_get p.query.positive (get_or c.row-row.result.now k 0) ≡ Some o
          → IsLeftOf p o new (c.args.from + 1))
          c.loop-place.place-index
          (λ k before o here. left_grown p.task (formulas p) (late p.effect o.after) o.which old new
          (c.args.from + 1) grown (omega arith) (c.loop-place.invariant.seen k before o here))
          (λ o here. c.if-not-visit_place.ensures.left refl o here);
    }

pub returns-clause-left : goal.returns-clause-left
returns-clause-left g c = λ is.
    let p = c.args.problem.now in
    let followed = c.loop-place.invariant.followed in
    let more = longer _ _ _ _ followed in
    let less = c.requires.from in
    owners_left p c.loop-place.marks c.args.from c.get-literal.result (omega arith)
    (read_on c.args.marks.now.trail c.loop-place.marks.trail followed.more.0 c.args.from
    c.get-literal.result less followed.more.1 c.get-literal.ensures.here)
    c.loop-place.invariant.left c.row-row.result.now
    (λ place owns. c.row-row.ensures p c.requires.owners place owns)
    (λ k inside o here. let end = c.loop-place-test.false in
    c.loop-place.invariant.seen k (omega arith) o here)
