use Rattle.std.proofs.Common.{◌≡◌, take}
use Rattle.hv_bound.proofs.bound.add_atoms.Given as goal

abbrev pub invariant-loop-atom : goal.invariant-loop-atom
invariant-loop-atom l = l.made ≡ record l.fn.made { names = take l.atom l.task.names }
