use Rattle.std.proofs.Common.{arith}
use Rattle.hv_indexes.proofs.Keyed.{more_after}
use Rattle.hv_indexes.proofs.rows.count_upto.Goals as goal

pub returns-then-heads-place : goal.returns-then-heads-place
returns-then-heads-place c =
    let less = c.loop-place-test.true in
    record {
      within = omega arith;
      before = c.loop-place.invariant;
      after = more_after c.args.heads.now c.args.key c.loop-place.place _ c.requires.rises less
          c.if-heads-place.true;
    }
