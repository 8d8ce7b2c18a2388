use Rattle.std.proofs.Common.{◌≡◌, ◌&&◌, ◌||◌, ◌∙◌, not, sym, ap, length, arith}
use Rattle.hv_task.specs.State.{has_atom}
use Rattle.hv_task.specs.Working.Words.{flags_of}
use Rattle.hv_task.proofs.Flags.{length_flags, packed_upto}
use Rattle.hv_task.proofs.Turned.{atoms_turned, packed_turned}
use Rattle.hv_task.proofs.state.State.turn.Goals as goal

pub turn_all-requires-clause-out : goal.turn_all-requires-clause-out
turn_all-requires-clause-out c =
    let one = sym (length_flags c.self.inside.words.items c.self.inside.atoms)
    ∙ ap length c.self.view_is in
    let two = sym (length_flags c.out.inside.words.items c.out.inside.atoms)
    ∙ ap length c.out.view_is in
    packed_upto c.self.inside.words.items c.out.inside.words.items c.self.inside.atoms
    c.out.inside.atoms c.self.invariant c.out.invariant (omega arith)

pub turn_all-requires-clause-put : goal.turn_all-requires-clause-put
turn_all-requires-clause-put c =
    let one = sym (length_flags c.self.inside.words.items c.self.inside.atoms)
    ∙ ap length c.self.view_is in
    let two = sym (length_flags c.put.inside.words.items c.put.inside.atoms)
    ∙ ap length c.put.view_is in
    packed_upto c.self.inside.words.items c.put.inside.words.items c.self.inside.atoms
    c.put.inside.atoms c.self.invariant c.put.invariant (omega arith)

pub invariant_of-self : goal.invariant_of-self
invariant_of-self c =
    let one = sym (length_flags c.self.inside.words.items c.self.inside.atoms)
    ∙ ap length c.self.view_is in
    let two = sym (length_flags c.put.inside.words.items c.put.inside.atoms)
    ∙ ap length c.put.view_is in
    packed_turned c.self.inside.words.items c.out.inside.words.items c.put.inside.words.items
    c.turn_all.new.words.items c.self.inside.atoms c.put.inside.atoms c.self.invariant
    c.put.invariant (omega arith) c.turn_all.ensures.length c.turn_all.ensures.flags

pub returns-clause-turned : goal.returns-clause-turned
returns-clause-turned c = λ p.
    let one = sym (length_flags c.self.inside.words.items c.self.inside.atoms)
    ∙ ap length c.self.view_is in
    let two = sym (length_flags c.put.inside.words.items c.put.inside.atoms)
    ∙ ap length c.put.view_is in
    let same : c.put.inside.atoms ≡ c.self.inside.atoms = omega arith in
    atoms_turned c.self.inside.words.items c.out.inside.words.items c.put.inside.words.items
    c.turn_all.new.words.items c.self.inside.atoms c.out.inside.atoms c.put.inside.atoms
    c.self.invariant c.out.invariant c.put.invariant
    (packed_turned c.self.inside.words.items c.out.inside.words.items c.put.inside.words.items
    c.turn_all.new.words.items c.self.inside.atoms c.put.inside.atoms c.self.invariant
    c.put.invariant same c.turn_all.ensures.length c.turn_all.ensures.flags)
    c.turn_all.ensures.flags p
    ∙ ap (λ t. has_atom t p
    || (has_atom (flags_of c.self.inside.words.items c.self.inside.atoms) p
    && not (has_atom (flags_of c.out.inside.words.items c.out.inside.atoms) p))) c.put.view_is
    ∙ ap (λ t. has_atom c.args.put.now p || (has_atom t p
    && not (has_atom (flags_of c.out.inside.words.items c.out.inside.atoms) p))) c.self.view_is
    ∙ ap (λ t. has_atom c.args.put.now p || (has_atom c.args.self.now p && not (has_atom t p)))
    c.out.view_is

pub returns-clause-atoms : goal.returns-clause-atoms
returns-clause-atoms c =
    length_flags c.turn_all.new.words.items c.self.inside.atoms
    ∙ (sym (length_flags c.self.inside.words.items c.self.inside.atoms) ∙ ap length c.self.view_is)
