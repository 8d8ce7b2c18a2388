use Rattle.std.proofs.Common.{◌∙◌, ap, sym}
use Rattle.hv_task.specs.State.{has_atom, names_atom}
use Rattle.hv_task.proofs.Next.{next_same}
use Rattle.hv_bdd.proofs.Listed.{has_held, next_within}
use Rattle.hv_bdd.proofs.atom_bits.ListedState.next.Goals as goal

pub returns : goal.returns
returns c =
    let h = c.self.inside in
    let next =
    next_same (names_atom h.list.now) (has_atom c.args.self.now) c.args.from c.next.result
    (λ p.
    sym (has_held h.atoms h.list.now p c.self.invariant) ∙ ap (λ s. has_atom s p) c.self.view_is)
    c.next.ensures in
    record { next = next; within = next_within c.args.self.now c.args.from c.next.result next }
