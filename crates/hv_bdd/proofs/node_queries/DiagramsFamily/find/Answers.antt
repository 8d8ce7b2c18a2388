use Rattle.std.proofs.Common.{IfOk, subst}
use Rattle.hv_task.specs.Strips.{Strips, atoms}
use Rattle.hv_sets.specs.Cost.{IsAnswer}
use Rattle.hv_sets.specs.Query.{is_clash}
use Rattle.hv_bdd.specs.Live.{LivePass}
use Rattle.hv_bdd.specs.Nodes.{NodeList, in_node}
use Rattle.hv_bdd.proofs.node_queries.DiagramsFamily.find.Goals as goal

pub returns-clause-answer : goal.returns-clause-answer
returns-clause-answer c =
    subst (λ (list : NodeList). IfOk c.find.result (λ found.
    IsAnswer found (LivePass list c.args.task.now c.args.query.now c.args.budget)
    (atoms c.args.task.now) (is_clash c.args.task.now (in_node list) c.args.query.now)
    c.find.new.scratch.state))
    c.new-inquiry.ensures.list
    (subst (λ (task : Strips). IfOk c.find.result (λ found.
    IsAnswer found (LivePass c.new-inquiry.result.list task c.args.query.now c.args.budget)
    (atoms task) (is_clash task (in_node c.new-inquiry.result.list) c.args.query.now)
    c.find.new.scratch.state))
    c.new-inquiry.ensures.task c.find.ensures.answer)
