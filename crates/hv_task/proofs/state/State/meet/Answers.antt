use Rattle.std.proofs.Common.{◌&&◌, ◌∙◌, sym, ap, length, arith}
use Rattle.hv_task.specs.State.{has_atom}
use Rattle.hv_task.specs.Working.Words.{flags_of}
use Rattle.hv_task.proofs.Flags.{length_flags, packed_upto}
use Rattle.hv_task.proofs.Outside.{atoms_met, packed_met}
use Rattle.hv_task.proofs.state.State.meet.Goals as goal

pub meet_all-requires : goal.meet_all-requires
meet_all-requires c =
    let one = sym (length_flags c.self.inside.words.items c.self.inside.atoms)
    ∙ ap length c.self.view_is in
    let two = sym (length_flags c.other.inside.words.items c.other.inside.atoms)
    ∙ ap length c.other.view_is in
    packed_upto c.self.inside.words.items c.other.inside.words.items c.self.inside.atoms
    c.other.inside.atoms c.self.invariant c.other.invariant (omega arith)

pub invariant_of-self : goal.invariant_of-self
invariant_of-self c =
    packed_met c.self.inside.words.items c.other.inside.words.items c.meet_all.new.words.items
    c.self.inside.atoms c.self.invariant
    c.meet_all.ensures.length c.meet_all.ensures.flags

pub returns-clause-met : goal.returns-clause-met
returns-clause-met c = λ p.
    atoms_met c.self.inside.words.items c.other.inside.words.items c.meet_all.new.words.items
    c.self.inside.atoms c.other.inside.atoms
    c.self.invariant c.other.invariant
    (packed_met c.self.inside.words.items c.other.inside.words.items c.meet_all.new.words.items
    c.self.inside.atoms c.self.invariant
    c.meet_all.ensures.length c.meet_all.ensures.flags)
    c.meet_all.ensures.flags p
    ∙ ap (λ s. has_atom s p && has_atom (flags_of c.other.inside.words.items c.other.inside.atoms)
    p) c.self.view_is
    ∙ ap (λ s. has_atom c.args.self.now p && has_atom s p) c.other.view_is

pub returns-clause-atoms : goal.returns-clause-atoms
returns-clause-atoms c =
    length_flags c.meet_all.new.words.items c.self.inside.atoms
    ∙ (sym (length_flags c.self.inside.words.items c.self.inside.atoms) ∙ ap length c.self.view_is)
