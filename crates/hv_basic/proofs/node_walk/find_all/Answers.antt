use Rattle.std.proofs.Common.{◌∙◌, ◌<◌, ℕ, Option, Some, None, IfSome, ap, get_or, length, map}
use Rattle.std.proofs.Common.{refl, subst, sym}
use Rattle.std.proofs.lemmas.Option.{slice_get-get_or}
use Rattle.hv_task.specs.Strips.{atoms}
use Rattle.hv_sets.specs.Query.{IsReady, is_clash}
use Rattle.hv_bdd.specs.Live.{LivePass, NodeTask}
use Rattle.hv_bdd.specs.Nodes.{in_node, node_count}
use Rattle.hv_lines.specs.Verdicts.{IsDecided}
use Rattle.hv_basic.specs.Working.Asked.{with_action}
use Rattle.hv_basic.proofs.Inquired.{answer_here}
use Rattle.hv_basic.proofs.Walking.{all_settled, clash_here, first_at, lengths_kept, over_here}
use Rattle.hv_basic.proofs.Walking.{same_query, settled_here, settled_more}
use Rattle.hv_basic.proofs.node_walk.find_all.Goals as goal

pub find-requires-clause-ready : goal.find-requires-clause-ready
find-requires-clause-ready c =
    let a : Option ℕ = get_or c.args.actions.now c.loop-action.action-index None in
    subst (λ (i : NodeTask). IsReady (node_count i.list) (with_action c.loop-action.query a))
    (sym c.loop-action.invariant.same)
    (subst (IsReady (node_count c.args.inquiry.now.list))
    (sym (same_query c.args.query.now c.loop-action.query a c.loop-action.invariant.positive
    c.loop-action.invariant.negative))
    (c.requires.ready.ready c.loop-action.action-index a
    (slice_get-get_or c.args.actions.now c.loop-action.action-index None
    c.loop-action-test.true)))

pub find-requires-clause-action : goal.find-requires-clause-action
find-requires-clause-action c =
    let a : Option ℕ = get_or c.args.actions.now c.loop-action.action-index None in
    subst (λ (i : NodeTask). IfSome a (λ at. at < length i.task.actions))
    (sym c.loop-action.invariant.same)
    (c.requires.ready.below c.loop-action.action-index a
    (slice_get-get_or c.args.actions.now c.loop-action.action-index None
    c.loop-action-test.true))

pub returns-in-Over-clause-answer : goal.returns-in-Over-clause-answer
returns-in-Over-clause-answer c =
    let a : Option ℕ = get_or c.args.actions.now c.loop-action.action-index None in
    let list = c.args.inquiry.now.list in
    let task = c.args.inquiry.now.task in (
      with_action c.args.query.now a,
      first_at (λ q. LivePass list task q c.args.budget) (is_clash task (in_node list))
          (atoms task) c.args.query.now c.args.actions.now c.loop-action.action-index a
          c.loop-action.invariant.settled
          (slice_get-get_or c.args.actions.now c.loop-action.action-index None
          c.loop-action-test.true),
      over_here (λ q. LivePass list task q c.args.budget) (is_clash task (in_node list))
          (atoms task) (with_action c.loop-action.query a) (with_action c.args.query.now a)
          (same_query c.args.query.now c.loop-action.query a c.loop-action.invariant.positive
          c.loop-action.invariant.negative)
          c.find.new.scratch.state c.in_ok-find.field-0
          (answer_here (with_action c.loop-action.query a) c.args.budget
          c.in_ok-find.field-0 c.find.new.scratch.state c.loop-action.inquiry
          c.args.inquiry.now c.loop-action.invariant.same c.in_ok-find.ensures.answer)
          c.in-Over.is,
    )

pub returns-in-Clash-clause-answer : goal.returns-in-Clash-clause-answer
returns-in-Clash-clause-answer c =
    let a : Option ℕ = get_or c.args.actions.now c.loop-action.action-index None in
    let list = c.args.inquiry.now.list in
    let task = c.args.inquiry.now.task in
    let found =
    clash_here (λ q. LivePass list task q c.args.budget) (is_clash task (in_node list))
    (atoms task) (with_action c.loop-action.query a) (with_action c.args.query.now a)
    (same_query c.args.query.now c.loop-action.query a c.loop-action.invariant.positive
    c.loop-action.invariant.negative)
    c.find.new.scratch.state c.in_ok-find.field-0
    (answer_here (with_action c.loop-action.query a) c.args.budget
    c.in_ok-find.field-0 c.find.new.scratch.state c.loop-action.inquiry
    c.args.inquiry.now c.loop-action.invariant.same c.in_ok-find.ensures.answer)
    c.in-Clash.is in
    subst (IsDecided (λ q. LivePass list task q c.args.budget) (is_clash task (in_node list))
    (atoms task) (map (with_action c.args.query.now) c.args.actions.now))
    (sym c.in_ok-verdict-in-Clash.ensures) (
      with_action c.args.query.now a,
      first_at (λ q. LivePass list task q c.args.budget) (is_clash task (in_node list))
          (atoms task) c.args.query.now c.args.actions.now c.loop-action.action-index a
          c.loop-action.invariant.settled
          (slice_get-get_or c.args.actions.now c.loop-action.action-index None
          c.loop-action-test.true),
      found.0,
      (
        refl,
        (
          c.find.new.scratch.state,
          ap Some c.state.ensures,
          found.1,
          found.2,
        ),
      ),
    )

pub loop-action-preserved : goal.loop-action-preserved
loop-action-preserved c =
    let a : Option ℕ = get_or c.args.actions.now c.loop-action.action-index None in
    let list = c.args.inquiry.now.list in
    let task = c.args.inquiry.now.task in
    record {
      same = c.find.ensures.same ∙ c.loop-action.invariant.same;
      lengths = lengths_kept c.args.scratch.now c.loop-action.scratch c.find.new.scratch
          c.loop-action.invariant.lengths c.find.ensures.lengths;
      positive = c.loop-action.invariant.positive;
      negative = c.loop-action.invariant.negative;
      settled =
          settled_more (λ q. LivePass list task q c.args.budget) (is_clash task (in_node list))
          (atoms task) c.args.query.now c.args.actions.now c.loop-action.action-index a
          c.loop-action.invariant.settled
          (slice_get-get_or c.args.actions.now c.loop-action.action-index None
          c.loop-action-test.true)
          (settled_here (λ q. LivePass list task q c.args.budget) (is_clash task (in_node list))
          (atoms task) (with_action c.loop-action.query a) (with_action c.args.query.now a)
          (same_query c.args.query.now c.loop-action.query a c.loop-action.invariant.positive
          c.loop-action.invariant.negative)
          c.find.new.scratch.state c.in_ok-find.field-0
          (answer_here (with_action c.loop-action.query a) c.args.budget
          c.in_ok-find.field-0 c.find.new.scratch.state c.loop-action.inquiry
          c.args.inquiry.now c.loop-action.invariant.same c.in_ok-find.ensures.answer)
          c.in-Empty.is);
    }

pub returns-clause-answer : goal.returns-clause-answer
returns-clause-answer c =
    let list = c.args.inquiry.now.list in
    let task = c.args.inquiry.now.task in
    all_settled (λ q. LivePass list task q c.args.budget) (is_clash task (in_node list))
    (atoms task) c.args.query.now c.args.actions.now c.loop-action.action-index
    c.loop-action-test.false c.loop-action.invariant.settled
