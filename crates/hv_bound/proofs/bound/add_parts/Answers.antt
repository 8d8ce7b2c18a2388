use Rattle.std.proofs.Common.{ℕ, List, ◌+◌, ◌∙◌, arith, ap, subst, sym}
use Rattle.hv_task.specs.State.{AreBelow}
use Rattle.hv_task.specs.Strips.{Strips, atoms}
use Rattle.hv_bound.proofs.Copying.{AreBelow-push, atoms_made}
use Rattle.hv_bound.proofs.Faults.{no_value}
use Rattle.hv_bound.proofs.bound.add_parts.Goals as goal

pub set_start-requires : goal.set_start-requires
set_start-requires c =
    let size = atoms_made c.args.made.now c.add_atoms.new.made c.add_counters.new.made
    c.args.task.now.names c.args.most c.in_ok-add_atoms.ensures c.in_ok-add_counters.ensures in
    let here = c.atoms.ensures.atoms in
    let below : AreBelow (atoms c.args.task.now) c.start.result.now = c.start.ensures.below in
    subst (λ (xs : List ℕ). AreBelow (atoms c.add_counters.new.made) xs)
    (sym c.in_ok-with_atom.ensures)
    (AreBelow-push (atoms c.args.task.now) (atoms c.add_counters.new.made) c.start.result.now
    (c.atoms.result + c.args.most) (omega arith) (omega arith) below)

pub add_copies-requires-clause-atoms : goal.add_copies-requires-clause-atoms
add_copies-requires-clause-atoms c =
    ap (λ (t : Strips). atoms t) c.set_goal.ensures
    ∙ ap (λ (t : Strips). atoms t) c.set_start.ensures
    ∙ atoms_made c.args.made.now c.add_atoms.new.made c.add_counters.new.made
    c.args.task.now.names c.args.most c.in_ok-add_atoms.ensures c.in_ok-add_counters.ensures

pub returns-in_err-add_atoms : goal.returns-in_err-add_atoms
returns-in_err-add_atoms c =
    no_value c.from_residual.result _ _ c.from_residual.ensures.1

pub returns-in_err-add_counters : goal.returns-in_err-add_counters
returns-in_err-add_counters c =
    no_value c.from_residual-in_err-add_counters.result _ _ c.from_residual-in_err-add_counters.ensures.1

pub returns-in_err-with_atom : goal.returns-in_err-with_atom
returns-in_err-with_atom c =
    no_value c.from_residual-in_err-with_atom.result _ _ c.from_residual-in_err-with_atom.ensures.1

pub returns-in_err-copy : goal.returns-in_err-copy
returns-in_err-copy c =
    no_value c.from_residual-in_err-copy.result _ _ c.from_residual-in_err-copy.ensures.1
