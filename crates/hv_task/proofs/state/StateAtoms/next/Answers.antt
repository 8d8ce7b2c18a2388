use Rattle.std.proofs.Common.{◌∙◌, ◌≤◌, length, sym, ap, arith}
use Rattle.hv_task.specs.State.{has_atom}
use Rattle.hv_task.specs.Working.Words.{flag_at}
use Rattle.hv_task.proofs.Flags.{has_flags_anywhere, length_flags}
use Rattle.hv_task.proofs.Places.{has_atom_past}
use Rattle.hv_task.proofs.Next.{next_same}
use Rattle.hv_task.proofs.state.StateAtoms.next.Goals as goal

pub returns-then-from-self : goal.returns-then-from-self
returns-then-from-self c = λ p upto.
    let size = sym (length_flags c.self.inside.words.items c.self.inside.atoms)
    ∙ ap length c.self.view_is in
    let past : length c.args.self.now ≤ p = let far = c.if-from-self.true in omega arith in
    has_atom_past c.args.self.now p past

pub next_flag-requires : goal.next_flag-requires
next_flag-requires c =
    let size = ap length c.as_slice.ensures.value in
    let tight = c.self.invariant.tight in omega arith

pub returns : goal.returns
returns c =
    next_same (flag_at c.as_slice.result.now) (has_atom c.args.self.now) c.args.from
    c.next_flag.result
    (λ p. ap (λ w. flag_at w p) c.as_slice.ensures.value
    ∙ sym (has_flags_anywhere c.self.inside.words.items c.self.inside.atoms p c.self.invariant)
    ∙ ap (λ s. has_atom s p) c.self.view_is) c.next_flag.ensures
