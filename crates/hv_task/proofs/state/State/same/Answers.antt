use Rattle.std.proofs.Common.{◌≡◌, ◌∙◌, sym, ap, length, arith, subst}
use Rattle.hv_task.specs.Working.Words.{IsPacked, flags_of}
use Rattle.hv_task.proofs.Flags.{length_flags}
use Rattle.hv_task.proofs.state.State.same.Goals as goal

pub same_all-requires-clause-other : goal.same_all-requires-clause-other
same_all-requires-clause-other c =
    let one = sym (length_flags c.self.inside.words.items c.self.inside.atoms)
    ∙ ap length c.self.view_is in
    let two = sym (length_flags c.other.inside.words.items c.other.inside.atoms)
    ∙ ap length c.other.view_is in
    let same : c.other.inside.atoms ≡ c.self.inside.atoms = omega arith in
    subst (λ w. IsPacked w c.self.inside.atoms) (sym c.as_slice-2.ensures.value)
    (subst (λ n. IsPacked c.other.inside.words.items n) same c.other.invariant)

pub returns : goal.returns
returns c =
    let one = sym (length_flags c.self.inside.words.items c.self.inside.atoms)
    ∙ ap length c.self.view_is in
    let two = sym (length_flags c.other.inside.words.items c.other.inside.atoms)
    ∙ ap length c.other.view_is in
    let same : c.self.inside.atoms ≡ c.other.inside.atoms = omega arith in
    let mine : flags_of c.as_slice.result.now c.self.inside.atoms ≡ c.args.self.now = ap
    (λ w. flags_of w c.self.inside.atoms) c.as_slice.ensures.value ∙ c.self.view_is in
    let other_view : flags_of c.as_slice-2.result.now c.self.inside.atoms ≡ c.args.other.now = ap
    (λ w. flags_of w c.self.inside.atoms) c.as_slice-2.ensures.value
    ∙ ap (λ n. flags_of c.other.inside.words.items n) same ∙ c.other.view_is in (
      λ e. sym mine ∙ (c.same_all.ensures.0 e ∙ other_view),
      λ e. c.same_all.ensures.1
          (mine ∙ (e ∙ sym other_view)),
    )
