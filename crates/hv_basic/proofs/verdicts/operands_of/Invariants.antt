use Rattle.std.proofs.Common.{take}
use Rattle.hv_basic.specs.Cases.{lines_in}
use Rattle.hv_basic.specs.Working.Asked.{AreOperands}
use Rattle.hv_basic.proofs.verdicts.operands_of.Given as goal

abbrev pub invariant-loop-set : goal.invariant-loop-set
invariant-loop-set l = AreOperands (lines_in l.case) (take l.set-index l.asked) l.operands
