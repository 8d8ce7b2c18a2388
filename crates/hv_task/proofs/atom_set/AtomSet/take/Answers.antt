use Rattle.std.proofs.Common.{◌∙◌, sym}
use Rattle.hv_task.proofs.Sets.{members_same}
use Rattle.hv_task.proofs.atom_set.AtomSet.take.Goals as goal

pub returns-clause-list : goal.returns-clause-list
returns-clause-list c =
    c.in_ok-list.ensures ∙ c.as_slice.ensures.value ∙ sym (members_same _ c.sort.ensures.rises)
    ∙ c.sort.ensures.members ∙ c.self.view_is
