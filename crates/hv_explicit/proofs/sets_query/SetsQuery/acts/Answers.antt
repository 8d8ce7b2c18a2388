use Rattle.std.proofs.Common.{◌≡◌, ◌∙◌, false, subst, sym}
use Rattle.std.specs.List.{All}
use Rattle.hv_explicit.specs.Working.Search.{ListedSearch}
use Rattle.hv_explicit.proofs.Hits.{before_alone}
use Rattle.hv_explicit.proofs.sets_query.SetsQuery.acts.Goals as goal

pub returns : goal.returns
returns c = λ none.
    subst (λ (p : ListedSearch). All (λ o. o.after ≡ false) p.query.negative) c.self.view_is
    (before_alone _ c.self.inside.query.now c.self.invariant.search.ready
    (sym c.is_some.ensures ∙ none))
