use Rattle.std.proofs.Common.{◌∙◌, ap, sym, arith}
use Rattle.std.proofs.lemmas.List.{length-map}
use Rattle.hv_sets.specs.declared.literal.Literal.{Literal}
use Rattle.hv_sets.specs.Cubes.{atoms_of}
use Rattle.hv_sets.proofs.Cubes.{atom_at, place_absent}
use Rattle.hv_sets.proofs.cube.place_of.Goals as goal

pub returns-in_default : goal.returns-in_default
returns-in_default c =
    place_absent (atoms_of c.args.literals.now) c.args.atom c.first_upto-place.result c.requires
    c.first_upto-place.ensures
    (λ within e.
    let found = c.in-Some.found.now in
    let size = length-map c.args.literals.now (λ (l : Literal). l.atom) in
    let at = atom_at c.args.literals.now c.first_upto-place.result found (omega arith) in
    c.if-found-atom.false (ap (λ (l : Literal). l.atom) (c.in-Some.ensures.lookup.1)
    ∙ (sym at ∙ e)))
