use Rattle.std.proofs.Common.{arith, length-drop}
use Rattle.std.proofs.Math.Seq.{take-add}
use Rattle.std.proofs.lemmas.List.{take_rest}
use Rattle.hv_bytes.proofs.Known.{appends_more}
use Rattle.hv_bytes.proofs.transfer.send.Goals as goal

pub sending-preserved : goal.sending-preserved
sending-preserved g c =
    let before = c.sending.invariant.1 in (
      omega (
        arith,
        c.sending.invariant.0,
        c.sending-test.true,
        simp (take_rest, length-drop) at
            c.in_ok-at.ensures.bound,
      ),
      rw take-add (appends_more _ _ _ _ _ before (rw take_rest at c.in_ok-at.ensures.taken)),
      omega (arith, c.write.ensures.cause.later, c.sending.invariant.2),
    )
