use Rattle.std.proofs.Common.{ℕ, ◌≤◌, ◌∙◌, List, length, arith, ap}
use Rattle.std.proofs.lemmas.List.{length-take-le, take_all}
use Rattle.hv_task.specs.Strips.{Strips}
use Rattle.hv_bound.proofs.Copying.{named_more}
use Rattle.hv_bound.proofs.bound.add_atoms.Goals as goal

pub loop-atom-init : goal.loop-atom-init
loop-atom-init c =
    ap (λ (xs : List (List ℕ)). record c.args.made.now { names = xs }) c.requires

pub add_atom-requires : goal.add_atom-requires
add_atom-requires c =
    let task = c.atoms-atom-end.ensures in
    let upto : c.loop-atom.atom ≤ length c.args.task.now.names = omega (arith, task.atoms) in
    omega (
      arith,
      ap (λ (t : Strips). length t.names) c.loop-atom.invariant,
      length-take-le c.loop-atom.atom c.args.task.now.names upto,
      task.atoms,
      task.task.few_atoms,
    )

pub loop-atom-preserved : goal.loop-atom-preserved
loop-atom-preserved c =
    named_more c.args.made.now c.loop-atom.made c.add_atom.new.self c.args.task.now.names
    c.loop-atom.atom c.in_ok-new.field-0 c.atom_name.result.now c.loop-atom.invariant
    c.atom_name.ensures (c.in_ok-new.ensures ∙ c.as_bytes.ensures) c.in_ok-add_atom.ensures.ok

pub returns : goal.returns
returns c =
    c.loop-atom.invariant
    ∙ ap (λ (xs : List (List ℕ)). record c.args.made.now { names = xs })
    (take_all c.loop-atom.atom c.args.task.now.names
    (omega (arith, c.atoms-atom-end.ensures.atoms)))
