use Rattle.std.proofs.Common.{◌≡◌, ◌∙◌, get_or, subst}
use Rattle.std.proofs.lemmas.Bool.{both_ways}
use Rattle.std.specs.List.{All}
use Rattle.hv_explicit.specs.Working.Search.{ListedSearch}
use Rattle.hv_explicit.proofs.sets_query.SetsQuery.asks.Goals as goal

pub returns : goal.returns
returns c = λ none.
    let operands = c.self.inside.query.now.negative in
    subst (λ (p : ListedSearch). All (λ o. o.after ≡ c.args.after → ⊥) p.query.negative)
    c.self.view_is
    (λ k d within e. both_ways (get_or operands k d).after (e ∙ c.if-after.false)
    (c.self.invariant.asks none k d within))
