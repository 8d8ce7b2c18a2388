use Rattle.hv_basic.specs.Leaves.{places}
use Rattle.hv_basic.proofs.Leafing.{leafing_step}
use Rattle.hv_basic.proofs.leaves.leaves_within.Goals as goal

pub sets-preserved : goal.sets-preserved
sets-preserved c = record {
  leafing =
      leafing_step c.args.table.now.lines c.args.side c.args.root c.in-Some.set c.sets.bound
      c.sets.work c.take_last.new.work c.look_at.new.work
      (places c.sets.found.items) (places c.look_at.new.found.items) c.sets.invariant.leafing
      c.in-Some.ensures.some c.in_ok-look_at.ensures.looked;
  read = c.in_ok-look_at.ensures.read;
}
