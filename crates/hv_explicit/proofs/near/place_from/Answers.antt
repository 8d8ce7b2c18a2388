use Rattle.std.proofs.Common.{◌+◌, arith}
use Rattle.hv_task.proofs.Rising.{rises_upto}
use Rattle.hv_explicit.proofs.near.place_from.Goals as goal

pub loop-place-preserved : goal.loop-place-preserved
loop-place-preserved c =
    let room = c.loop-place-test.true in
    let within = c.loop-place.invariant.within in record {
      within = omega arith;
      less = λ k less.
          let last = c.if-list-place.true in
          let upto = rises_upto c.args.list.now k (c.loop-place.place + 3) c.requires.rises
          (omega arith) (omega arith) in
          omega arith;
    }

pub returns : goal.returns
returns c = record {
  within = c.loop-place-2.invariant.within;
  below = c.loop-place-2.invariant.less;
  over = λ k past within.
      let first = c.is_before.ensures.over c.loop-place-2-test.false (omega arith) in
      let upto = rises_upto c.args.list.now c.loop-place-2.place k c.requires.rises past within in
      omega arith;
}
