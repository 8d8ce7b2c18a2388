use Rattle.std.proofs.Common.{◌∙◌, Ok, Result, ap, length, refl, subst, sym}
use Rattle.std.specs.declared.alloc.AllocError.{AllocError}
use Rattle.hv_task.specs.State.{state_of}
use Rattle.hv_task.specs.Strips.{atoms, start_state}
use Rattle.hv_sets.specs.Cost.{IsAnswer}
use Rattle.hv_sets.specs.Query.{IsReady, action_of, is_clash}
use Rattle.hv_sets.specs.declared.finding.Finding.{Finding}
use Rattle.hv_sets.specs.declared.finding.Finding.TheVariants as F
use Rattle.hv_bdd.specs.Live.{LivePass, NodeTask, operands_of}
use Rattle.hv_bdd.specs.Nodes.{in_node, node_count}
use Rattle.hv_bdd.specs.Working.Search.{TupleSearch, active}
use Rattle.hv_bdd.specs.Working.Untouched.{IsKeptOf}
use Rattle.hv_bdd.proofs.Alike.{by_marks, fruitless}
use Rattle.hv_bdd.proofs.Marked.{length-changed_by, length-needed_by}
use Rattle.hv_bdd.proofs.Queried.{answer_is, parts_are}
use Rattle.hv_bdd.proofs.node_inquiry.NodeInquiry.tells_none.Goals as goal

pub is_fruitless-requires-clause-needed : goal.is_fruitless-requires-clause-needed
is_fruitless-requires-clause-needed c =
    let task = c.self.inside.task.now in
    ap length c.needed_by-needed.ensures.bits
    ∙ (length-needed_by (atoms task) (action_of task c.args.query.now.action)
    ∙ sym c.self.invariant.0)

pub is_fruitless-requires-clause-changed : goal.is_fruitless-requires-clause-changed
is_fruitless-requires-clause-changed c =
    let task = c.self.inside.task.now in
    ap length c.changed_by-changed.ensures
    ∙ (length-changed_by (atoms task) (action_of task c.args.query.now.action)
    ∙ sym c.self.invariant.0)

pub returns : goal.returns
returns c = λ yes state.
    let list = c.self.inside.nodes.now in
    let task = c.self.inside.task.now in
    let query = c.args.query.now in
    let needed = c.needed_by-needed.result in
    let changed = c.changed_by-changed.result in
    let asked = active (operands_of query) in
    let start = start_state task in
    let goal = state_of (atoms task) task.goal in
    let is_task = c.needed_by-needed.ensures.task in
    let over = c.self.invariant.0 in
    let s : TupleSearch = record {
      setting = by_marks list start goal needed changed;
      asked = asked;
    } in
    let found : Result Finding AllocError = Ok F.Empty in
    subst (λ (i : NodeTask). IsAnswer F.Empty (LivePass i.list i.task query c.args.budget)
    (atoms i.task) (is_clash i.task (in_node i.list) query) state) c.self.view_is
    (answer_is list task query is_task over s
    (parts_are list task query is_task over start goal needed changed asked refl refl
    c.needed_by-needed.ensures.bits c.changed_by-changed.ensures refl)
    c.atoms-atoms.ensures.reduced
    (subst (λ (i : NodeTask). IsReady (node_count i.list) query) (sym c.self.view_is)
    c.requires.ready) found c.args.budget state
    (fruitless list start goal asked needed changed c.args.budget state c.args.known.now
    c.requires.asked
    (subst (λ (i : NodeTask). IsKeptOf i.list i.task c.args.known.now) (sym c.self.view_is)
    c.requires.known)
    (ap length c.needed_by-needed.ensures.bits
    ∙ (length-needed_by (atoms task) (action_of task query.action) ∙ sym over))
    (ap length c.changed_by-changed.ensures
    ∙ (length-changed_by (atoms task) (action_of task query.action) ∙ sym over))
    (c.is_fruitless.ensures yes)))
