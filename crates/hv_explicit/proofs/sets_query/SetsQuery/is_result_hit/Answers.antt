use Rattle.std.proofs.Common.{◌≡◌, ◌∙◌, ap, subst, sym, true}
use Rattle.hv_task.specs.Atoms.{is_after}
use Rattle.hv_explicit.specs.Codes.{IsBelow}
use Rattle.hv_explicit.specs.ListedStates.{in_found}
use Rattle.hv_explicit.specs.Working.Search.{in_named}
use Rattle.hv_explicit.proofs.sets_query.SetsQuery.is_result_hit.Goals as goal

pub has_result_at-requires-clause-below : goal.has_result_at-requires-clause-below
has_result_at-requires-clause-below c =
    subst (λ n. IsBelow n (is_after c.args.action.now c.args.held.now))
    (sym c.set.ensures.over) c.requires.below

pub returns : goal.returns
returns c = λ yes state just.
    let s = c.args.self.now in
    let asks = c.names_set.ensures.asks.0 c.if-not-names_set.false in
    let has = ap (λ o. in_found o state) c.set.ensures.named
    ∙ c.has_result_at.ensures yes state (just.of_task ∙ sym c.set.ensures.over) just.same in (
      asks.0,
      asks.1,
      asks.3,
      subst (λ w. in_named s w state ≡ true) (sym asks.2) has,
    )
