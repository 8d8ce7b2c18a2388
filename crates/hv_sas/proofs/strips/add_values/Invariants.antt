use Rattle.std.proofs.Common.{◌≡◌, ◌++◌, take}
use Rattle.hv_sas.proofs.strips.add_values.Given as goal

abbrev pub invariant-loop-name : goal.invariant-loop-name
invariant-loop-name l =
    l.task ≡ record l.fn.task { names = l.fn.task.names ++ take l.name-index l.names }
