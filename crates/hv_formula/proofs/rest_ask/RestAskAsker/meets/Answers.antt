use Rattle.hv_formula.proofs.rest_ask.RestAskAsker.meets.Goals as goal

pub meets-requires-clause-stands : goal.meets-requires-clause-stands
meets-requires-clause-stands g c = c.requires.stands.0

pub returns-clause-meets : goal.returns-clause-meets
returns-clause-meets g c = c.in_ok-yes.ensures.meets

pub returns-clause-assumed : goal.returns-clause-assumed
returns-clause-assumed g c = c.in_ok-yes.ensures.assumed

pub returns-clause-atoms : goal.returns-clause-atoms
returns-clause-atoms g c = c.meets.ensures.atoms

pub returns-clause-wanted : goal.returns-clause-wanted
returns-clause-wanted g c = c.meets.ensures.wanted

pub returns-clause-lengths : goal.returns-clause-lengths
returns-clause-lengths g c = c.meets.ensures.lengths
