use Rattle.std.proofs.Common.{◌∙◌, ℕ, sym, ap, length, arith}
use Rattle.hv_task.specs.State.{has_atom}
use Rattle.hv_task.specs.Working.Words.{flag_at}
use Rattle.hv_task.proofs.Flags.{has_flags_anywhere, length_flags, packed_upto}
use Rattle.hv_task.proofs.state.State.is_within.Goals as goal

pub are_within-requires : goal.are_within-requires
are_within-requires c =
    let one = sym (length_flags c.self.inside.words.items c.self.inside.atoms)
    ∙ ap length c.self.view_is in
    let two = sym (length_flags c.other.inside.words.items c.other.inside.atoms)
    ∙ ap length c.other.view_is in
    ap length c.as_slice.ensures.value
    ∙ packed_upto c.self.inside.words.items c.other.inside.words.items c.self.inside.atoms
    c.other.inside.atoms c.self.invariant c.other.invariant (omega arith)
    ∙ sym (ap length c.as_slice-2.ensures.value)

pub returns : goal.returns
returns c =
    let own = λ (p : ℕ). ap (λ w. flag_at w p) c.as_slice.ensures.value
    ∙ sym (has_flags_anywhere c.self.inside.words.items c.self.inside.atoms p c.self.invariant)
    ∙ ap (λ s. has_atom s p) c.self.view_is in
    let others = λ (p : ℕ). ap (λ w. flag_at w p) c.as_slice-2.ensures.value
    ∙ sym (has_flags_anywhere c.other.inside.words.items c.other.inside.atoms p c.other.invariant)
    ∙ ap (λ s. has_atom s p) c.other.view_is in (
      λ yes. λ p held. sym (others p) ∙ c.are_within.ensures.0 yes p (own p ∙ held),
      λ within. c.are_within.ensures.1
          (λ p set. others p ∙ within p (sym (own p) ∙ set)),
    )
