use Rattle.std.proofs.Common.{◌∙◌, ap, sym}
use Rattle.hv_task.specs.State.{has_atom}
use Rattle.hv_task.proofs.Flags.{has_flags, has_flags_anywhere, length_flags}
use Rattle.hv_task.proofs.state.State.resize.Goals as goal

pub returns-clause-atoms : goal.returns-clause-atoms
returns-clause-atoms c = length_flags c.resize_all.new.words.items c.args.atoms

pub returns-clause-held : goal.returns-clause-held
returns-clause-held c = λ p less.
    has_flags c.resize_all.new.words.items c.args.atoms p less
    ∙ c.in_ok-resize_all.ensures.flags p less
    ∙ sym (has_flags_anywhere c.self.inside.words.items c.self.inside.atoms p c.self.invariant)
    ∙ ap (λ s. has_atom s p) c.self.view_is
