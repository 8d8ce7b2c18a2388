use Rattle.std.proofs.Common.{◌<◌, ◌∙◌, sym, ap, length, arith}
use Rattle.hv_task.specs.State.{has_atom}
use Rattle.hv_task.specs.Working.Words.{flag_at}
use Rattle.hv_task.proofs.Flags.{has_flags, length_flags}
use Rattle.hv_task.proofs.state.State.has.Goals as goal

pub has_flag-requires : goal.has_flag-requires
has_flag-requires c =
    let size = sym (length_flags c.self.inside.words.items c.self.inside.atoms)
    ∙ ap length c.self.view_is in
    let upto = c.self.invariant.upto in omega arith

pub returns : goal.returns
returns c =
    let size = sym (length_flags c.self.inside.words.items c.self.inside.atoms)
    ∙ ap length c.self.view_is in
    let less : c.args.atom < c.self.inside.atoms = omega arith in
    c.has_flag.ensures ∙ ap (λ w. flag_at w c.args.atom) c.as_slice.ensures.value
    ∙ sym (has_flags c.self.inside.words.items c.self.inside.atoms c.args.atom less)
    ∙ ap (λ s. has_atom s c.args.atom) c.self.view_is
