use Rattle.std.proofs.Common.{◌∙◌, sym, ap, length}
use Rattle.hv_task.proofs.Flags.{length_flags}
use Rattle.hv_task.proofs.state.State.atoms.Goals as goal

pub returns : goal.returns
returns c = sym (length_flags c.self.inside.words.items c.self.inside.atoms)
    ∙ ap length c.self.view_is
