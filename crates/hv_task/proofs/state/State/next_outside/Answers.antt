use Rattle.std.proofs.Common.{◌≤◌, ◌&&◌, ◌∙◌, not, sym, ap, length, arith}
use Rattle.hv_task.specs.State.{has_atom}
use Rattle.hv_task.specs.Working.Words.{flag_at, flags_of}
use Rattle.hv_task.proofs.Flags.{length_flags, packed_upto}
use Rattle.hv_task.proofs.Next.{next_same}
use Rattle.hv_task.proofs.Places.{has_atom_past}
use Rattle.hv_task.proofs.Outside.{atoms_outside}
use Rattle.hv_task.proofs.state.State.next_outside.Goals as goal

pub next_outside-requires-clause-length : goal.next_outside-requires-clause-length
next_outside-requires-clause-length c =
    let one = sym (length_flags c.self.inside.words.items c.self.inside.atoms)
    ∙ ap length c.self.view_is in
    let two = sym (length_flags c.other.inside.words.items c.other.inside.atoms)
    ∙ ap length c.other.view_is in
    ap length c.as_slice.ensures.value
    ∙ packed_upto c.self.inside.words.items c.other.inside.words.items c.self.inside.atoms
    c.other.inside.atoms c.self.invariant c.other.invariant (omega arith)
    ∙ sym (ap length c.as_slice-2.ensures.value)

pub returns : goal.returns
returns c =
    next_same (λ p. flag_at c.as_slice.result.now p && not (flag_at c.as_slice-2.result.now p))
    (λ p. has_atom c.args.self.now p && not (has_atom c.args.other.now p)) c.args.from
    c.next_outside.result
    (λ p.
    ap (λ w. flag_at w p && not (flag_at c.as_slice-2.result.now p)) c.as_slice.ensures.value
    ∙ ap (λ w. flag_at c.self.inside.words.items p && not (flag_at w p)) c.as_slice-2.ensures.value
    ∙ atoms_outside c.self.inside.words.items c.other.inside.words.items c.self.inside.atoms
    c.other.inside.atoms c.self.invariant c.other.invariant p
    ∙ ap (λ s. has_atom s p && not (has_atom
    (flags_of c.other.inside.words.items c.other.inside.atoms) p)) c.self.view_is
    ∙ ap (λ s. has_atom c.args.self.now p && not (has_atom s p)) c.other.view_is)
    c.next_outside.ensures

pub next_outside-requires-clause-few : goal.next_outside-requires-clause-few
next_outside-requires-clause-few c =
    let size = ap length c.as_slice.ensures.value in
    let tight = c.self.invariant.tight in omega arith

pub returns-then-from-self : goal.returns-then-from-self
returns-then-from-self c = λ p upto.
    let size = sym (length_flags c.self.inside.words.items c.self.inside.atoms)
    ∙ ap length c.self.view_is in
    let past : length c.args.self.now ≤ p = let far = c.if-from-self.true in omega arith in
    ap (λ b. b && not (has_atom c.args.other.now p)) (has_atom_past c.args.self.now p past)
