use Rattle.std.proofs.Common.{◌<◌, ◌/◌, arith, subst, sym}
use Rattle.hv_bdd.proofs.node_exclusions.land_all.Goals as goal

pub land-requires-clause-atom : goal.land-requires-clause-atom
land-requires-clause-atom c =
    subst (λ n. n < c.args.side.now.nodes.now.atoms) (sym c.atom_at.ensures)
    (c.atoms-atoms.ensures.reduced.ordered.atom_in (c.loop-number.number / 2)
    (omega (arith, c.loop-number-test.true, c.atoms-atoms.ensures.atoms)))

pub loop-number-preserved : goal.loop-number-preserved
loop-number-preserved c = (c.in_ok-land.ensures.fronts, c.in_ok-land.ensures.landings)
