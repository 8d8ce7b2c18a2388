use Rattle.std.proofs.Common.{◌∙◌, sym, ap, length, set, arith}
use Rattle.hv_task.proofs.Flags.{flags_set, length_flags, packed_set}
use Rattle.hv_task.proofs.state.State.set.Goals as goal

pub put_flag-requires : goal.put_flag-requires
put_flag-requires c =
    let size = sym (length_flags c.self.inside.words.items c.self.inside.atoms)
    ∙ ap length c.self.view_is in
    let upto = c.self.invariant.upto in omega arith

pub invariant_of-self : goal.invariant_of-self
invariant_of-self c =
    let size = sym (length_flags c.self.inside.words.items c.self.inside.atoms)
    ∙ ap length c.self.view_is in
    packed_set c.self.inside.words.items c.put_flag.new.words.items c.self.inside.atoms c.args.atom
    c.args.value c.self.invariant (omega arith)
    c.put_flag.ensures.length c.put_flag.ensures.flags

pub returns : goal.returns
returns c =
    flags_set c.self.inside.words.items c.put_flag.new.words.items c.self.inside.atoms c.args.atom
    c.args.value c.put_flag.ensures.flags
    ∙ ap (λ s. set s c.args.atom c.args.value) c.self.view_is
