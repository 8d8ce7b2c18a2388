use Rattle.std.proofs.Common.{◌≡◌, ◌∙◌, sym, ap, length, arith, subst}
use Rattle.hv_task.specs.Working.Words.{IsPacked, flags_of}
use Rattle.hv_task.proofs.Flags.{length_flags, packed_upto}
use Rattle.hv_task.proofs.state.State.copy_from.Goals as goal

pub copy_all-requires : goal.copy_all-requires
copy_all-requires c =
    let one = sym (length_flags c.self.inside.words.items c.self.inside.atoms)
    ∙ ap length c.self.view_is in
    let two = sym (length_flags c.other.inside.words.items c.other.inside.atoms)
    ∙ ap length c.other.view_is in
    packed_upto c.self.inside.words.items c.other.inside.words.items c.self.inside.atoms
    c.other.inside.atoms c.self.invariant c.other.invariant (omega arith)

pub invariant_of-self : goal.invariant_of-self
invariant_of-self c =
    let one = sym (length_flags c.self.inside.words.items c.self.inside.atoms)
    ∙ ap length c.self.view_is in
    let two = sym (length_flags c.other.inside.words.items c.other.inside.atoms)
    ∙ ap length c.other.view_is in
    let same : c.other.inside.atoms ≡ c.self.inside.atoms = omega arith in
    subst (λ n. IsPacked c.copy_all.new.words.items n) same
    (subst (λ w. IsPacked w c.other.inside.atoms) (sym c.copy_all.ensures) c.other.invariant)

pub returns : goal.returns
returns c =
    let one = sym (length_flags c.self.inside.words.items c.self.inside.atoms)
    ∙ ap length c.self.view_is in
    let two = sym (length_flags c.other.inside.words.items c.other.inside.atoms)
    ∙ ap length c.other.view_is in
    let same : c.self.inside.atoms ≡ c.other.inside.atoms = omega arith in
    ap (λ w. flags_of w c.self.inside.atoms) c.copy_all.ensures
    ∙ ap (λ n. flags_of c.other.inside.words.items n) same ∙ c.other.view_is
