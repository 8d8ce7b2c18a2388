use Rattle.std.proofs.Common.{◌∙◌, [], sym, ap, length}
use Rattle.hv_task.specs.State.{state_of}
use Rattle.hv_task.proofs.Flags.{flags_none, length_flags, packed_none}
use Rattle.hv_task.proofs.state.State.clear.Goals as goal

pub invariant_of-self : goal.invariant_of-self
invariant_of-self c = packed_none c.self.inside.words.items c.clear_all.new.words.items
    c.self.inside.atoms c.self.invariant c.clear_all.ensures.length c.clear_all.ensures.none

pub returns : goal.returns
returns c =
    let size = sym (length_flags c.self.inside.words.items c.self.inside.atoms)
    ∙ ap length c.self.view_is in
    record {
      none = flags_none c.clear_all.new.words.items c.self.inside.atoms c.clear_all.ensures.none
          ∙ ap (λ n. state_of n []) size;
      atoms = length_flags c.clear_all.new.words.items c.self.inside.atoms ∙ size;
    }
