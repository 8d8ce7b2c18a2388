use Rattle.std.proofs.Common.{take}
use Rattle.hv_basic.specs.Working.Asked.{AreKeys}
use Rattle.hv_basic.proofs.rising.keys_of.Given as goal

abbrev pub invariant-loop-asking : goal.invariant-loop-asking
invariant-loop-asking l = AreKeys (take l.asking-index l.askings) l.positive l.keys
