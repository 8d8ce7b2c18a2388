use Rattle.hv_task.proofs.Rising.{Inserts-insert, absent_from_place}
use Rattle.hv_task.proofs.atom_list.AtomList.insert.Goals as goal

pub returns-in_ok-insert-clause-ok : goal.returns-in_ok-insert-clause-ok
returns-in_ok-insert-clause-ok c =
    let place = rw c.as_slice.ensures at c.in-Err.ensures in
    rw (c.in_ok-insert.ensures.ok, ← c.self.view_is)
    (Inserts-insert c.self.inside.atoms.items c.args.atom c.in-Err.place c.self.invariant place)

pub returns-in_ok-insert-clause-there : goal.returns-in_ok-insert-clause-there
returns-in_ok-insert-clause-there c = λ there.
    let place = rw c.as_slice.ensures at c.in-Err.ensures in
    absurd (absent_from_place c.self.inside.atoms.items c.args.atom c.in-Err.place place
    (rw c.self.view_is there))
