use Rattle.std.proofs.Common.{◌∙◌, ap, sym}
use Rattle.hv_task.specs.State.{has_atom}
use Rattle.hv_bdd.proofs.Listed.{has_held, is_named}
use Rattle.hv_bdd.proofs.atom_bits.ListedState.has.Goals as goal

pub returns : goal.returns
returns c =
    let h = c.self.inside in
    is_named h.list.now c.args.atom c.has.result c.has.ensures.0 c.has.ensures.1
    ∙ (sym (has_held h.atoms h.list.now c.args.atom c.self.invariant)
    ∙ ap (λ s. has_atom s c.args.atom) c.self.view_is)
