use Rattle.std.proofs.Common.{length, subst}
use Rattle.std.specs.List.{All}
use Rattle.hv_sets.specs.Query.{IsNamed}
use Rattle.hv_explicit.specs.Working.Search.{ListedSearch}
use Rattle.hv_explicit.proofs.Hits.{negative_named}
use Rattle.hv_explicit.proofs.sets_query.SetsQuery.negative.Goals as goal

pub returns-clause-named : goal.returns-clause-named
returns-clause-named c =
    let s = c.self.inside in
    subst (λ (p : ListedSearch). All (λ o. IsNamed (length p.sets) o.which) c.as_slice.result.now)
    c.self.view_is
    (negative_named (length s.sets.now) s.query.now c.as_slice.result.now
    c.self.invariant.search.ready c.as_slice.ensures)
