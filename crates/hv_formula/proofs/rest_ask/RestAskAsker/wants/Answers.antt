use Rattle.hv_formula.proofs.rest_ask.RestAskAsker.wants.Goals as goal

pub wants-requires-clause-stands : goal.wants-requires-clause-stands
wants-requires-clause-stands g c = c.requires.stands.0

pub wants-requires-clause-below : goal.wants-requires-clause-below
wants-requires-clause-below g c = c.requires.below

pub wants-requires-clause-size : goal.wants-requires-clause-size
wants-requires-clause-size g c = c.requires.size

pub wants-requires-clause-state : goal.wants-requires-clause-state
wants-requires-clause-state g c = c.requires.state

pub returns-clause-wants : goal.returns-clause-wants
returns-clause-wants g c = c.in_ok-yes.ensures.wants

pub returns-clause-assumed : goal.returns-clause-assumed
returns-clause-assumed g c = c.in_ok-yes.ensures.assumed

pub returns-clause-atoms : goal.returns-clause-atoms
returns-clause-atoms g c = c.wants.ensures.atoms

pub returns-clause-wanted : goal.returns-clause-wanted
returns-clause-wanted g c = c.wants.ensures.wanted
