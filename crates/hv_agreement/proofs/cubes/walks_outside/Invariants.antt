use Rattle.hv_agreement.proofs.cubes.walks_outside.Given as goal

abbrev pub invariant-loop-clause : goal.invariant-loop-clause
invariant-loop-clause g l = g.S.Outside.stands_outside l.set l.cursor
