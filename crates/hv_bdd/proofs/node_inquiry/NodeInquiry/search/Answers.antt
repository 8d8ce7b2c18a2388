use Rattle.std.proofs.Common.{◌∙◌, IfSome, Ok, Result, subst, sym}
use Rattle.std.specs.declared.alloc.AllocError.{AllocError}
use Rattle.hv_task.specs.Strips.{atoms}
use Rattle.hv_sets.specs.Cost.{IsAnswer}
use Rattle.hv_sets.specs.Query.{IsReady, is_clash}
use Rattle.hv_sets.specs.declared.finding.Finding.{Finding}
use Rattle.hv_bdd.specs.Live.{LivePass, NodeTask}
use Rattle.hv_bdd.specs.Nodes.{in_node, node_count}
use Rattle.hv_bdd.specs.Working.Search.{ListsPlaces, TupleSearch, search_for}
use Rattle.hv_bdd.specs.Working.Untouched.{IsKeptTrulyFor}
use Rattle.hv_bdd.proofs.Queried.{answer_is}
use Rattle.hv_bdd.proofs.node_inquiry.NodeInquiry.search.Goals as goal

pub count_and_find-requires-clause-known : goal.count_and_find-requires-clause-known
count_and_find-requires-clause-known c =
    let known = c.args.known.now in
    subst (λ (s : TupleSearch). IsKeptTrulyFor s known) (sym c.search_for-search.ensures.search)
    (subst (λ (i : NodeTask). IsKeptTrulyFor (search_for i.list i.task c.args.query.now) known)
    (sym c.self.view_is) c.requires.known)

pub returns-clause-answer : goal.returns-clause-answer
returns-clause-answer c =
    let list = c.self.inside.nodes.now in
    let task = c.self.inside.task.now in
    let query = c.args.query.now in
    let state = c.count_and_find.new.state in
    let made = c.search_for-search.ensures in
    let found : Result Finding AllocError = Ok c.in_ok-found.found in
    subst (λ (i : NodeTask). IsAnswer c.in_ok-found.found
    (LivePass i.list i.task query c.args.budget)
    (atoms i.task) (is_clash i.task (in_node i.list) query) state) c.self.view_is
    (answer_is list task query made.task c.self.invariant.0 c.search_for-search.result made.search
    made.reduced
    (subst (λ (i : NodeTask). IsReady (node_count i.list) query) (sym c.self.view_is)
    c.requires.ready) found c.args.budget state c.in_ok-found.ensures.answer)

pub returns-clause-known : goal.returns-clause-known
returns-clause-known c =
    let known = c.count_and_find.new.known in
    subst (λ (i : NodeTask). IsKeptTrulyFor (search_for i.list i.task c.args.query.now) known)
    c.self.view_is
    (subst (λ (s : TupleSearch). IsKeptTrulyFor s known) c.search_for-search.ensures.search
    c.in_ok-found.ensures.known)

pub invariant_of-self-2 : goal.invariant_of-self-2
invariant_of-self-2 c =
    let same = c.count_and_find.ensures.same ∙ c.search_for-search.ensures.search in (
      c.self.invariant.0,
      subst (λ (s : TupleSearch). IfSome c.places.result.listed (λ places.
          ListsPlaces s.setting.list s.setting.goal places.items)) same c.places.ensures,
      c.self.invariant.2,
    )
