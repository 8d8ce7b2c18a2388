use Rattle.std.proofs.Common.{take}
use Rattle.hv_task.specs.Atoms.{Lists}
use Rattle.hv_explicit.proofs.results.is_same.Given as goal

abbrev pub invariant-loop-atom : goal.invariant-loop-atom
invariant-loop-atom g l = Lists (g.A.Atoms.has l.held) l.from (take l.atom-index l.list)
