use Rattle.std.proofs.Common.{◌≡◌, ◌++◌, take}
use Rattle.std.specs.List.{flat_map}
use Rattle.hv_task_text.specs.Canonical.{with_lf}
use Rattle.hv_task_text.proofs.write.write_names.Given as goal

abbrev pub invariant-loop-atom : goal.invariant-loop-atom
invariant-loop-atom l = l.text ≡ l.initial.text ++ flat_map with_lf (take l.atom l.task.names)
