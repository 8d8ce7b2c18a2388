use Rattle.std.proofs.Common.{sym, ltb-true}
use Rattle.hv_sets.proofs.Cubes.{all_less}
use Rattle.hv_sets.proofs.cube.first_upto.Goals as goal

pub returns-in_default : goal.returns-in_default
returns-in_default c =
    let found = c.in-Some.ensures.item in
    all_less c.args.literals.now c.in-Some.last.now c.args.atom c.requires
    (ltb-true _ _ (sym found.0), found.1)
    c.if-last-atom.false
