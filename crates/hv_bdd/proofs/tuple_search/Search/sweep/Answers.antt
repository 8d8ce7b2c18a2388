use Rattle.std.proofs.Common.{◌≡◌, ◌+◌, ◌-◌, ℕ, arith, subst, sym}
use Rattle.std.proofs.lemmas.List.{length-map}
use Rattle.smallvec.specs.SmallVec.{SmallVec}
use Rattle.hv_bdd.specs.Live.{moves, roots}
use Rattle.hv_bdd.specs.Tuples.{TuplesPass}
use Rattle.hv_bdd.specs.Working.Search.{TupleSearch, tuples_of}
use Rattle.hv_bdd.specs.Working.Sweeping.{IsPlacePass, SweptSoFar}
use Rattle.hv_bdd.proofs.Swept.{sweep_over}
use Rattle.hv_bdd.proofs.tuple_search.Search.sweep.Goals as goal

pub returns-then-len-left-clause-swept : goal.returns-then-len-left-clause-swept
returns-then-len-left-clause-swept c =
    let s = c.args.self.now in
    let so = c.loop.invariant.swept in
    let left = c.loop.invariant.left in
    let size = so.size in
    let len = c.len.ensures.len in
    let count = length-map c.loop.waiting.here.keys (λ (v : SmallVec ℕ). v.items) in
    let more = c.if-len-left.true in
    sweep_over (moves s.setting) s.asked (roots s.setting s.asked) so.from so.gone
    (tuples_of c.loop.waiting.here) so.swept c.args.budget (omega arith)

pub returns-in-Over-clause-swept : goal.returns-in-Over-clause-swept
returns-in-Over-clause-swept c =
    let s = c.args.self.now in
    let here = c.loop.waiting in
    let new = c.pass_place.new.waiting in
    let left = c.loop.left in
    let count = c.args.budget - left in
    let upto = c.loop.invariant.left in
    let all : count + left ≡ c.args.budget = omega arith in
    let passed = subst (IsPlacePass c.loop.self left here.places.items (tuples_of here.here)
    new.places.items (tuples_of new.here)) c.in-Over.is c.in_ok-moved.ensures.passed in
    subst (TuplesPass (moves s.setting) s.asked (roots s.setting s.asked)) all
    (subst (λ (x : TupleSearch). TuplesPass (moves x.setting) x.asked (roots x.setting x.asked)
    (count + left)) c.loop.invariant.same
    (passed count (subst (λ (x : TupleSearch). SweptSoFar x count here.places.items
    (tuples_of here.here)) (sym c.loop.invariant.same) c.loop.invariant.swept)))
