use Rattle.std.proofs.Common.{take}
use Rattle.std.specs.List.{All}
use Rattle.hv_task.specs.Strips.{atoms}
use Rattle.hv_propagation.specs.Clauses.{AreClauses}
use Rattle.hv_basic.specs.Cases.{lines_in}
use Rattle.hv_basic.specs.Sharing.{AreJointClauses}
use Rattle.hv_basic.proofs.joint.clauses_of_all.Given as goal

abbrev pub invariant-loop-set : goal.invariant-loop-set
invariant-loop-set g l = record {
  clauses : AreJointClauses (lines_in l.case) (take l.set-index l.asked) l.all;
  below : AreClauses (atoms l.case.task.now) l.all;
  kind : All g.K.ClauseKind.is_of l.all;
}
