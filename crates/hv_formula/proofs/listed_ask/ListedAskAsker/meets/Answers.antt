use Rattle.std.proofs.Common.{◌∙◌}
use Rattle.hv_formula.proofs.listed_ask.ListedAskAsker.meets.Goals as goal

pub meets-requires-clause-stands : goal.meets-requires-clause-stands
meets-requires-clause-stands g c = c.requires.stands.0

pub returns-clause-meets : goal.returns-clause-meets
returns-clause-meets g c = c.in_ok-yes.ensures.meets

pub meets-requires-clause-open : goal.meets-requires-clause-open
meets-requires-clause-open g c = c.requires.open

pub returns-clause-stands : goal.returns-clause-stands
returns-clause-stands g c = (
  c.in_ok-yes.ensures.stands,
  c.meets.ensures.atoms ∙ c.requires.stands.1,
  λ s. c.meets.ensures.wanted s ∙ c.requires.stands.2 s,
  c.requires.stands.3,
  c.requires.stands.4,
)

pub returns-clause-assumed : goal.returns-clause-assumed
returns-clause-assumed g c = c.in_ok-yes.ensures.assumed

pub returns-clause-atoms : goal.returns-clause-atoms
returns-clause-atoms g c = c.meets.ensures.atoms

pub returns-clause-wanted : goal.returns-clause-wanted
returns-clause-wanted g c = c.meets.ensures.wanted

pub returns-clause-lengths : goal.returns-clause-lengths
returns-clause-lengths g c = c.meets.ensures.lengths
