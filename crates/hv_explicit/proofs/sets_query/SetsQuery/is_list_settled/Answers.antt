use Rattle.hv_task.specs.State.{state_of, successor}
use Rattle.hv_task.specs.Strips.{atoms}
use Rattle.hv_explicit.proofs.Clashes.{below_after, stands_after}
use Rattle.hv_explicit.proofs.Hits.{hit_settles}
use Rattle.hv_explicit.proofs.sets_query.SetsQuery.is_list_settled.Goals as goal

pub is_result_hit-requires-clause-below : goal.is_result_hit-requires-clause-below
is_result_hit-requires-clause-below c =
    below_after (atoms c.args.self.now.task) c.in-Some.action.now c.args.held.now
    c.requires.below c.in-Some.ensures.1

pub returns-in-Some : goal.returns-in-Some
returns-in-Some c = λ yes.
    let s = c.args.self.now in
    let held = c.args.held.now in
    let action = c.in-Some.action.now in
    hit_settles s action held c.in-Some.ensures.0
    (c.is_result_hit.ensures yes (successor action (state_of (atoms s.task) held))
    (stands_after s.task action held c.requires.below c.in-Some.ensures.1))
