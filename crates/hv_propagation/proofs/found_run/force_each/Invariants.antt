use Rattle.std.proofs.Common.{◌-◌, length, true}
use Rattle.hv_propagation.specs.Trail.{marked}
use Rattle.hv_propagation.specs.Working.FoundRun.{IsRun, on_trail}
use Rattle.hv_propagation.proofs.found_run.force_each.Given as goal

abbrev pub invariant-loop-index : goal.invariant-loop-index
invariant-loop-index l =
    IsRun l.entries l.from (marked l.atoms l.roots)
    (on_trail (marked l.atoms l.roots) l.fn.queue l.len) l.places l.queue
    (record { index = l.index; len = l.end; holds = true })

abbrev pub decreases-loop-index : goal.decreases-loop-index
decreases-loop-index l = length l.entries - l.index
