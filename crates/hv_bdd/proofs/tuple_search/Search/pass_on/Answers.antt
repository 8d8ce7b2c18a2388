use Rattle.std.proofs.Common.{◌<◌, ◌∙◌, List, Some, ℕ, subst, sym}
use Rattle.std.proofs.lemmas.Bool.Decides.{Decides-eqb}
use Rattle.hv_bdd.specs.Live.{moves, roots}
use Rattle.hv_bdd.specs.Tuples.{least}
use Rattle.hv_bdd.specs.Working.Search.{tuples_of}
use Rattle.hv_bdd.specs.Working.Sweeping.{IsTupleAdded}
use Rattle.hv_bdd.proofs.Swept.{later_by, moves_on, waits_on}
use Rattle.hv_bdd.proofs.Tupled.{next_rises, reached_live, reached_tuple}
use Rattle.hv_bdd.proofs.tuple_search.Search.pass_on.Goals as goal

pub add_next-requires-clause-tuple : goal.add_next-requires-clause-tuple
add_next-requires-clause-tuple c =
    reached_tuple c.args.self.now c.requires.search c.args.tuple.now c.requires.reached

pub add_next-requires-2-clause-tuple : goal.add_next-requires-2-clause-tuple
add_next-requires-2-clause-tuple c =
    reached_tuple c.args.self.now c.requires.search c.args.tuple.now c.requires.reached

pub returns-then-not-asks : goal.returns-then-not-asks
returns-then-not-asks c = λ tuples swept.
    let s = c.args.self.now in
    let v = c.args.marks.now.place in
    let t = c.args.tuple.now in
    waits_on (moves s.setting) s.asked (roots s.setting s.asked) v tuples
    (tuples_of c.args.later.now) t swept c.requires.reached (tuples_of c.add.new.set)
    (later_by v (least (moves s.setting) s.asked t) c.requires.upto
    (sym c.requires.asks ∙ c.if-not-asks.true))
    (subst (λ (x : List ℕ). IsTupleAdded (tuples_of c.args.later.now) (Some x)
    (tuples_of c.add.new.set)) c.in_ok-copy.ensures.ok c.in_ok-add.ensures)

pub returns : goal.returns
returns c = λ tuples swept.
    let s = c.args.self.now in
    let v = c.args.marks.now.place in
    let t = c.args.tuple.now in
    let here = (Decides-eqb (least (moves s.setting) s.asked t) v).0
    (sym c.requires.asks ∙ c.if-not-asks.false) in
    moves_on (moves s.setting) s.asked (roots s.setting s.asked) v tuples
    (tuples_of c.args.later.now) t swept c.requires.reached (tuples_of c.add_next.new.later)
    (tuples_of c.add_next-2.new.later) here
    (λ u b e. subst (λ n. n < least (moves s.setting) s.asked u) here
    (next_rises s c.requires.search t u b
    (reached_tuple s c.requires.search t c.requires.reached) e))
    c.in_ok-add_next.ensures c.in_ok-add_next-2.ensures

pub add_next-requires-clause-live : goal.add_next-requires-clause-live
add_next-requires-clause-live c =
    reached_live c.args.self.now c.requires.search c.args.tuple.now c.requires.reached

pub add_next-requires-2-clause-live : goal.add_next-requires-2-clause-live
add_next-requires-2-clause-live c =
    reached_live c.args.self.now c.requires.search c.args.tuple.now c.requires.reached
