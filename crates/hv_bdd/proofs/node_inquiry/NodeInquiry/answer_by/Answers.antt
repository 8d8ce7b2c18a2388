use Rattle.std.proofs.Common.{◌≡◌, IfOk, IfSome, List, OnOk, refl, subst, sym}
use Rattle.std.proofs.lemmas.Result.{on_ok_weaker}
use Rattle.hv_task.specs.State.{state_of}
use Rattle.hv_task.specs.Strips.{atoms, start_state}
use Rattle.hv_sets.specs.Cost.{IsAnswer}
use Rattle.hv_sets.specs.Query.{is_clash}
use Rattle.hv_bdd.specs.declared.asked.Asked.{Asked}
use Rattle.hv_bdd.specs.Live.{LivePass, NodeTask}
use Rattle.hv_bdd.specs.Nodes.{in_node}
use Rattle.hv_bdd.specs.Working.Search.{search_for}
use Rattle.hv_bdd.specs.Working.Untouched.{IsKeptOf}
use Rattle.hv_bdd.proofs.Gone.{kept_for, kept_of}
use Rattle.hv_bdd.proofs.node_inquiry.NodeInquiry.answer_by.Goals as goal

pub keep_for-requires : goal.keep_for-requires
keep_for-requires c =
    subst (λ (i : NodeTask). IsKeptOf i.list i.task c.args.known.now) (sym c.self.view_is)
    c.requires.known

pub tells_none-requires-clause-asked : goal.tells_none-requires-clause-asked
tells_none-requires-clause-asked c =
    subst (λ (os : List Asked). IfSome c.keep_for.new.known (λ k. k.asked.items ≡ os))
    c.requires.asked c.in_ok-keep_for.ensures.asked

pub tells_none-requires-clause-known : goal.tells_none-requires-clause-known
tells_none-requires-clause-known c =
    subst (λ (i : NodeTask). IsKeptOf i.list i.task c.keep_for.new.known) c.self.view_is
    c.in_ok-keep_for.ensures.known

pub search-found-requires-clause-known : goal.search-found-requires-clause-known
search-found-requires-clause-known c =
    kept_for (search_for c.self.inside.nodes.now c.self.inside.task.now c.args.query.now)
    c.args.asked.now c.keep_for.new.known c.requires.asked c.in_ok-keep_for.ensures.asked
    c.in_ok-keep_for.ensures.known

pub returns-clause-known : goal.returns-clause-known
returns-clause-known c =
    let list = c.self.inside.nodes.now in
    let task = c.self.inside.task.now in
    let found = c.search-found.result in
    let known = c.search-found.new.known in
    subst (λ (i : NodeTask). OnOk found (IsKeptOf i.list i.task known)) c.self.view_is
    (on_ok_weaker found
    (kept_of (search_for list task c.args.query.now) list (start_state task)
    (state_of (atoms task) task.goal) known refl refl refl) c.search-found.ensures.known)

pub returns-clause-answer : goal.returns-clause-answer
returns-clause-answer c =
    let query = c.args.query.now in
    subst (λ (i : NodeTask). IfOk c.search-found.result (λ found.
    IsAnswer found (LivePass i.list i.task query c.args.budget) (atoms i.task)
    (is_clash i.task (in_node i.list) query) c.search-found.new.state)) c.self.view_is
    c.search-found.ensures.answer
