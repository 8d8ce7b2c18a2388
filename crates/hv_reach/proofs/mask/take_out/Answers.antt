use Rattle.std.proofs.Common.{◌∙◌, false, get_or, length-set, arith}
use Rattle.hv_reach.proofs.Turns.{lowered_stays, not_named, taken_more, unnamed_other}
use Rattle.hv_reach.proofs.mask.take_out.Goals as goal

pub loop-atom-preserved : goal.loop-atom-preserved
loop-atom-preserved c =
    let i = c.loop-atom.invariant in
    let x = get_or c.args.list.now c.loop-atom.atom-index 0 in
    rw c.set.ensures
    (record {
      size = length-set c.loop-atom.mask x false ∙ i.size;
      sound = taken_more c.args.list.now c.loop-atom.atom-index c.args.mask.now c.loop-atom.mask
          i.sound;
      complete = λ q held free. lowered_stays c.loop-atom.mask x q
          (unnamed_other c.args.list.now c.loop-atom.atom-index q (omega arith) free)
          (i.complete q held free);
    })

pub returns-clause-sound : goal.returns-clause-sound
returns-clause-sound c = λ q held.
    let w = c.loop-atom.invariant.sound q held in
    (w.0, not_named c.args.list.now q (λ k less. w.1 k (omega arith)))
