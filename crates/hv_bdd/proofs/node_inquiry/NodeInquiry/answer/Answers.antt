use Rattle.std.proofs.Common.{◌∙◌, subst, sym}
use Rattle.hv_task.specs.Strips.{atoms}
use Rattle.hv_sets.specs.Cost.{IsAnswer}
use Rattle.hv_sets.specs.Query.{is_clash}
use Rattle.hv_bdd.specs.Live.{LivePass, NodeTask}
use Rattle.hv_bdd.specs.Nodes.{in_node}
use Rattle.hv_bdd.specs.Working.Untouched.{IsKeptOf}
use Rattle.hv_bdd.proofs.node_inquiry.NodeInquiry.answer.Goals as goal

pub answer_by-requires-clause-known : goal.answer_by-requires-clause-known
answer_by-requires-clause-known c =
    subst (IsKeptOf c.self.inside.nodes.now c.self.inside.task.now)
    (sym c.replace-known.ensures.value) c.self.invariant.2

pub invariant_of-self-2 : goal.invariant_of-self-2
invariant_of-self-2 c =
    let same = c.self-2.view_is ∙ c.in_ok-found.ensures.same in (
      c.self-2.invariant.0,
      c.self-2.invariant.1,
      subst (λ (i : NodeTask). IsKeptOf i.list i.task c.answer_by.new.known) (sym same)
          c.in_ok-found.ensures.known,
    )

pub returns-clause-answer : goal.returns-clause-answer
returns-clause-answer c =
    let query = c.args.query.now in
    subst (λ (i : NodeTask). IsAnswer c.in_ok-found.found
    (LivePass i.list i.task query c.args.budget)
    (atoms i.task) (is_clash i.task (in_node i.list) query) c.answer_by.new.state) c.self.view_is
    c.in_ok-found.ensures.answer
