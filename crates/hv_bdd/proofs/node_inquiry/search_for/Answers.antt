use Rattle.std.proofs.Common.{◌∙◌, ap, ap₂, arith, length}
use Rattle.hv_task.specs.State.{state_of}
use Rattle.hv_task.proofs.Places.{length-state_of}
use Rattle.hv_bdd.proofs.Queried.{can_search, parts_are}
use Rattle.hv_bdd.proofs.node_inquiry.search_for.Goals as goal

pub new-requires-2-clause-tuples : goal.new-requires-2-clause-tuples
new-requires-2-clause-tuples c =
    let list = c.args.nodes.now in
    let task = c.args.task.now in
    let query = c.args.query.now in
    let atoms = c.atoms-atoms-2.ensures.atoms in
    let is_task = c.atoms-atoms-2.ensures.task in
    can_search list task query is_task c.requires.over _
    (parts_are list task query is_task c.requires.over _ _ _ _ _
    (c.new-start.ensures ∙ ap₂ state_of atoms c.start.ensures.start)
    (c.new.ensures ∙ ap₂ state_of atoms c.goal.ensures.goal)
    c.needed_by-needed.ensures.bits c.changed_by-changed.ensures c.requires.asked)
    c.atoms-atoms.ensures.reduced c.requires.ready

pub new-requires-2-clause-goal : goal.new-requires-2-clause-goal
new-requires-2-clause-goal c =
    let same = ap length c.new.ensures in
    let size = length-state_of c.atoms-atoms-2.result c.goal.result.now in
    let atoms = c.atoms-atoms-2.ensures.atoms in
    let over = c.requires.over in
    omega arith
