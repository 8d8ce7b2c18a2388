use Rattle.std.proofs.Common.{◌≡◌}
use Rattle.hv_lines.specs.Queries.{actions_below}
use Rattle.hv_basic.proofs.actions.flagged_actions.Given as goal

abbrev pub invariant-loop-action : goal.invariant-loop-action
invariant-loop-action l = l.asked.items ≡ actions_below l.table.lines l.acts l.action
