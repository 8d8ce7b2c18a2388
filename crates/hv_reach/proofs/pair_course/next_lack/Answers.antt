use Rattle.std.proofs.Common.{true, arith, get_or}
use Rattle.hv_reach.proofs.Served.{before_end, before_next, rises_past, row_pair}
use Rattle.hv_reach.specs.Reached.{has_pair}
use Rattle.hv_reach.proofs.pair_course.next_lack.Goals as goal

pub overflow_cast-result : goal.overflow_cast-result
overflow_cast-result c =
    let list = c.args.list.now in
    let past = rises_past list c.loop-place.place c.requires.rises (omega arith) in
    let below = c.requires.below c.loop-place.place 0 (omega arith) in
    let fits = c.ranges.atoms.fits in omega arith

pub overflow_cast-result-in-Some : goal.overflow_cast-result-in-Some
overflow_cast-result-in-Some c =
    let list = c.args.list.now in
    let inside = c.in-Some.ensures.0 in
    let past = rises_past list c.in-Some.found c.requires.rises inside in
    let below = c.requires.below c.in-Some.found 0 inside in
    let fits = c.ranges.atoms.fits in omega arith

pub loop-place-preserved : goal.loop-place-preserved
loop-place-preserved c =
    let list = c.args.list.now in
    let below = c.requires.below c.loop-place.place 0 (omega arith) in
    before_next (has_pair c.args.rows.now.items) list c.loop-place.place
    c.loop-place.from c.loop-place.invariant
    (λ j le less. row_pair c.args.atoms c.args.rows.now.items c.index.result.now
    (get_or list c.loop-place.place 0) (get_or list j 0) true c.requires.table below
    c.index.ensures (c.in-None.ensures j le less))

pub returns : goal.returns
returns c =
    before_end (has_pair c.args.rows.now.items) c.args.list.now c.loop-place.place
    c.loop-place.from (omega arith) c.loop-place.invariant
