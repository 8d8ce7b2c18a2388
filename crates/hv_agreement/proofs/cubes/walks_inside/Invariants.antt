use Rattle.hv_agreement.proofs.cubes.walks_inside.Given as goal

abbrev pub invariant-loop-code : goal.invariant-loop-code
invariant-loop-code g l = g.S.Inside.stands_inside l.set l.cursor
