use Rattle.hv_reach.specs.Reached.{has_pair}
use Rattle.hv_reach.specs.Working.Course.{ArePairedBefore}
use Rattle.hv_reach.proofs.pair_course.next_lack.Given as goal

abbrev pub invariant-loop-place : goal.invariant-loop-place
invariant-loop-place l = ArePairedBefore (has_pair l.rows.items) l.list l.place l.from
