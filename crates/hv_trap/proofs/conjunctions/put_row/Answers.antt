use Rattle.std.proofs.Common.{◌+◌}
use Rattle.hv_trap.specs.Conjunctions.{denies_one, over_two}
use Rattle.hv_trap.proofs.Listed.{denials_next}
use Rattle.hv_trap.proofs.conjunctions.put_row.Goals as goal

pub loop-second-preserved : goal.loop-second-preserved
loop-second-preserved c =
    denials_next (denies_one c.args.goal.now) (over_two c.args.first) (c.args.first + 1)
    c.loop-second.second c.args.clauses.now
    c.loop-second.clauses c.put_pair.new.clauses c.loop-second.auto.second c.loop-second.invariant
    c.in_ok-put_pair.ensures
