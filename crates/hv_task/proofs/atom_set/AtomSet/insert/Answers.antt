use Rattle.std.proofs.Common.{◌∙◌, subst, sym}
use Rattle.hv_task.specs.AtomList.{Inserts}
use Rattle.hv_task.specs.Working.AtomList.{members}
use Rattle.hv_task.proofs.Sets.{members_insert}
use Rattle.hv_task.proofs.atom_set.AtomSet.insert.Goals as goal

pub returns-clause-ok : goal.returns-clause-ok
returns-clause-ok c =
    let made = c.made_room-self-inside.new.atoms.items in
    let atom = c.args.atom in
    subst (λ old. Inserts old atom (members c.push.new.self.items))
    (c.made_room-self-inside.ensures ∙ c.self.view_is)
    (subst (λ items. Inserts (members made) atom (members items)) (sym c.in_ok-push.ensures.items)
    (members_insert made atom))
