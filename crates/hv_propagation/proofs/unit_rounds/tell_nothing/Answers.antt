use Rattle.std.proofs.Common.{refl}
use Rattle.hv_propagation.proofs.Around.{two_more}
use Rattle.hv_propagation.proofs.unit_rounds.tell_nothing.Goals as goal

pub loop-place-preserved : goal.loop-place-preserved
loop-place-preserved c =
    two_more c.args.clauses.now c.loop-place.place c.get.result.now c.get.ensures
    (c.if-not-has_two.ensures refl) c.loop-place.invariant
