use Rattle.std.proofs.Common.{◌≡◌, ◌∙◌, ap, subst, sym, true}
use Rattle.hv_explicit.specs.Codes.{IsBelow}
use Rattle.hv_explicit.specs.ListedStates.{in_found}
use Rattle.hv_explicit.specs.Working.Search.{in_named}
use Rattle.hv_explicit.proofs.sets_query.SetsQuery.is_state_hit.Goals as goal

pub lists_at-requires : goal.lists_at-requires
lists_at-requires g c =
    subst (λ n. IsBelow n (g.A.Sought.has c.args.held.now)) (sym c.set.ensures.over) c.requires

pub returns : goal.returns
returns g c = λ yes state just.
    let s = c.args.self.now in
    let asks = c.names_set.ensures.asks.0 c.if-not-names_set.false in
    let has = ap (λ o. in_found o state) c.set.ensures.named
    ∙ c.lists_at.ensures yes state (just.of_task ∙ sym c.set.ensures.over) just.same in (
      asks.0,
      asks.1,
      asks.3,
      subst (λ w. in_named s w state ≡ true) (sym asks.2) has,
    )
