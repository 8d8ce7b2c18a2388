use Rattle.std.proofs.Common.{◌∙◌, ap, sym}
use Rattle.hv_task.specs.State.{has_atom, names_atom}
use Rattle.hv_bdd.proofs.Listed.{has_held}
use Rattle.hv_bdd.proofs.atom_bits.ListedState.listed.Goals as goal

pub returns : goal.returns
returns c = λ a.
    let h = c.self.inside in
    ap (λ list. names_atom list a) c.as_slice.ensures.items
    ∙ (sym (has_held h.atoms h.list.now a c.self.invariant)
    ∙ ap (λ s. has_atom s a) c.self.view_is)
