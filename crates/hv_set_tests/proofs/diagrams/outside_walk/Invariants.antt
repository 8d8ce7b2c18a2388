use Rattle.hv_set_tests.proofs.diagrams.outside_walk.Given as goal

abbrev pub invariant-loop-turn : goal.invariant-loop-turn
invariant-loop-turn g l = g.S.Outside.stands_outside l.set l.cursor
