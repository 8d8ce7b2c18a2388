use Rattle.std.proofs.Common.{refl}
use Rattle.hv_indexes.proofs.screens.Screen.of.Goals as goal

pub empty-requires : goal.empty-requires
empty-requires c = c.requires.full

pub put_all-requires-clause-places : goal.put_all-requires-clause-places
put_all-requires-clause-places c = c.requires.places

pub put_all-requires-clause-standing : goal.put_all-requires-clause-standing
put_all-requires-clause-standing c = c.requires.standing

pub put_all-requires-clause-exact : goal.put_all-requires-clause-exact
put_all-requires-clause-exact c = c.in_ok-negative.ensures c.args.clauses.now

pub returns-then-put_all-clause-screened : goal.returns-then-put_all-clause-screened
returns-then-put_all-clause-screened c = c.if-put_all.ensures.screened refl

pub returns-then-put_all-clause-exact : goal.returns-then-put_all-clause-exact
returns-then-put_all-clause-exact c = c.if-put_all.ensures.exact refl

pub empty-requires-2 : goal.empty-requires-2
empty-requires-2 c = c.requires.full

pub put_all-requires-2-clause-places : goal.put_all-requires-2-clause-places
put_all-requires-2-clause-places c = c.requires.places

pub put_all-requires-2-clause-standing : goal.put_all-requires-2-clause-standing
put_all-requires-2-clause-standing c = c.requires.standing

pub put_all-requires-2-clause-exact : goal.put_all-requires-2-clause-exact
put_all-requires-2-clause-exact c = c.in_ok-positive.ensures c.args.clauses.now

pub returns-then-put_all-2-clause-screened : goal.returns-then-put_all-2-clause-screened
returns-then-put_all-2-clause-screened c = c.if-put_all-2.ensures.screened refl

pub returns-then-put_all-2-clause-exact : goal.returns-then-put_all-2-clause-exact
returns-then-put_all-2-clause-exact c = c.if-put_all-2.ensures.exact refl
