use Rattle.std.proofs.Common.{◌∙◌, List, Bool, IsTrue, sym, subst}
use Rattle.hv_sets.specs.declared.operand.Operand.{Operand}
use Rattle.hv_explicit.specs.Working.Owners.{IsOwned}
use Rattle.hv_explicit.specs.Working.Search.{HasJust, ListedSearch}
use Rattle.hv_explicit.proofs.sets_query.SetsQuery.finds_owner.Goals as goal

pub returns : goal.returns
returns g c =
    let s = c.self.inside in
    let set = g.A.Sought.has c.args.held.now in
    subst (λ (s : ListedSearch). IsTrue c.finds_owner.result → (state : List Bool)
    → HasJust s.task set state → IsOwned s.sets s.query.negative c.args.after state)
    c.self.view_is
    (subst (λ (operands : List Operand). IsTrue c.finds_owner.result → (state : List Bool)
    → HasJust s.task.now set state → IsOwned s.sets.now operands c.args.after state)
    c.self.invariant.names
    (λ yes state just. c.finds_owner.ensures yes state
    (just.of_task ∙ sym c.atoms.ensures.atoms) just.same))
