use Rattle.std.proofs.Common.{IfOk, length, map, subst, sym}
use Rattle.hv_task.specs.Strips.{Strips, atoms}
use Rattle.hv_sets.specs.Query.{is_clash}
use Rattle.hv_bdd.specs.Live.{LivePass}
use Rattle.hv_bdd.specs.Nodes.{NodeList, in_node, node_count}
use Rattle.hv_lines.specs.Verdicts.{IsDecided}
use Rattle.hv_basic.specs.Working.Asked.{with_action}
use Rattle.hv_basic.specs.Working.Deciding.{AreAllReady}
use Rattle.hv_basic.proofs.node_walk.walk_nodes.Goals as goal

pub find_all-requires : goal.find_all-requires
find_all-requires c = record {
  ready =
      subst (λ (list : NodeList). AreAllReady (node_count list)
      (length c.new-inquiry.result.task.actions) c.args.query.now c.args.actions.now)
      (sym c.new-inquiry.ensures.list)
      (subst (λ (task : Strips). AreAllReady (node_count c.args.case.now.diagrams.now)
      (length task.actions) c.args.query.now c.args.actions.now)
      (sym c.new-inquiry.ensures.task) c.requires.ready);
}

pub returns-clause-answer : goal.returns-clause-answer
returns-clause-answer c =
    subst (λ (list : NodeList). IfOk c.find_all.result (IsDecided
    (λ q. LivePass list c.args.case.now.task.now q c.args.case.now.budget)
    (is_clash c.args.case.now.task.now (in_node list)) (atoms c.args.case.now.task.now)
    (map (with_action c.args.query.now) c.args.actions.now))) c.new-inquiry.ensures.list
    (subst (λ (task : Strips). IfOk c.find_all.result (IsDecided
    (λ q. LivePass c.new-inquiry.result.list task q c.args.case.now.budget)
    (is_clash task (in_node c.new-inquiry.result.list)) (atoms task)
    (map (with_action c.args.query.now) c.args.actions.now))) c.new-inquiry.ensures.task
    c.find_all.ensures.answer)
