use Rattle.hv_basic.proofs.Marked.{IsMarking}
use Rattle.hv_basic.proofs.acts.flags_of.Given as goal

abbrev pub invariant-sets : goal.invariant-sets
invariant-sets l = IsMarking l.table.lines l.acts l.actions l.flags.items l.wanted.items l.left

abbrev pub decreases-sets : goal.decreases-sets
decreases-sets l = l.left
