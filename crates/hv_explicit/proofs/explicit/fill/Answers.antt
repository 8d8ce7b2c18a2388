use Rattle.std.proofs.Common.{sym, subst, ◌∙◌, ap, ◌++◌, ◌∷◌, []}
use Rattle.hv_task.specs.State.{AreBelow}
use Rattle.hv_sets.specs.Cubes.{atoms_of}
use Rattle.hv_explicit.proofs.Listing.{atoms_below, full_more}
use Rattle.hv_explicit.proofs.explicit.fill.Goals as goal

pub loop-atom-preserved : goal.loop-atom-preserved
loop-atom-preserved c =
    let below = subst (λ cube. AreBelow c.loop-atom.atom (atoms_of cube))
    (sym c.loop-atom.invariant) (atoms_below c.loop-atom.atom c.args.held.now) in
    let last = c.in_ok-add.ensures.last below in
    full_more c.loop-atom.atom c.args.held.now c.names_atom-positive.result c.add.new.self
    c.names_atom-positive.ensures
    (last.1 ∙ ap (λ cube. cube ++ record {
      atom = c.loop-atom.atom;
      positive = c.names_atom-positive.result;
    } ∷ []) c.loop-atom.invariant)
