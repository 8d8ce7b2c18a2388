use Rattle.std.proofs.Common.{length, subst}
use Rattle.hv_sets.specs.Query.{IsNamed}
use Rattle.hv_explicit.specs.Working.Search.{ListedSearch}
use Rattle.hv_explicit.proofs.Hits.{named_there}
use Rattle.hv_explicit.proofs.sets_query.SetsQuery.denies.Goals as goal

pub returns-clause-named : goal.returns-clause-named
returns-clause-named c = λ asks.
    let s = c.self.inside in
    subst (λ (p : ListedSearch). IsNamed (length p.sets) c.args.which) c.self.view_is
    (named_there (length s.sets.now) s.query.now c.args.which c.args.after
    c.self.invariant.search.ready (c.names.ensures.0 asks))
