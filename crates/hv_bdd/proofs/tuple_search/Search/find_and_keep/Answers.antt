use Rattle.std.proofs.Common.{subst}
use Rattle.hv_bdd.specs.Working.Sweeping.{IsSweepAnswer}
use Rattle.hv_bdd.proofs.Gone.{swept_empty}
use Rattle.hv_bdd.proofs.tuple_search.Search.find_and_keep.Goals as goal

pub returns-in-NoneEnds-clause-answer : goal.returns-in-NoneEnds-clause-answer
returns-in-NoneEnds-clause-answer c =
    let s = c.args.self.now in
    let places = c.sweep.new.waiting.places.items in
    let found = subst (IsSweepAnswer s c.args.budget places) c.in-NoneEnds.is
    c.in_ok-sweep.ensures.swept in
    swept_empty s c.in-NoneEnds.count places found.0 c.args.budget found.1 c.args.state.now
