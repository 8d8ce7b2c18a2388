use Rattle.hv_task.specs.Atoms.{is_kept}
use Rattle.hv_task.specs.State.{names_atom}
use Rattle.hv_task.proofs.after.AfterAtoms.next.Goals as goal

pub returns : goal.returns
returns c =
    c.lesser.ensures (names_atom c.args.self.now.action.now.add)
    (is_kept c.args.self.now.action.now.del c.args.self.now.held.now) c.args.from
    (rw c.as_slice.ensures.items at c.next_in-added.ensures)
    c.next_kept-kept.ensures
