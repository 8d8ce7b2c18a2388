use Rattle.std.proofs.Common.{◌≡◌, ◌++◌, take}
use Rattle.std.specs.List.{All, flat_map}
use Rattle.hv_task_text.specs.Canonical.{bytes_of_lines, entry_of}
use Rattle.hv_task_text.specs.Working.Canonical.{IsStored}
use Rattle.hv_task_text.specs.Written.{entry_lines}
use Rattle.hv_task_text.proofs.write.write_actions.Given as goal

abbrev pub invariant-loop-number : goal.invariant-loop-number
invariant-loop-number l = (l.text ≡ l.initial.text ++ flat_map
    (λ action. bytes_of_lines (entry_lines (entry_of action))) (take l.number l.task.actions))
    × All IsStored (take l.number l.task.actions)
