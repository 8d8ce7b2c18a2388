use Rattle.hv_basic.proofs.Listed.{IsListedTo}
use Rattle.hv_basic.proofs.actions.listed_actions.Given as goal

abbrev pub invariant-loop-action : goal.invariant-loop-action
invariant-loop-action l = IsListedTo l.table.lines l.acts l.listed l.actions l.action-index
    l.asked.items
