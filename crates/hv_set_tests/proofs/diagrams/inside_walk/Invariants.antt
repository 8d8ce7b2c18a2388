use Rattle.hv_set_tests.proofs.diagrams.inside_walk.Given as goal

abbrev pub invariant-loop-turn : goal.invariant-loop-turn
invariant-loop-turn g l = g.S.Inside.stands_inside l.set l.cursor
