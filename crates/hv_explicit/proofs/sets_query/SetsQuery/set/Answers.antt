use Rattle.std.proofs.Common.{◌≡◌, subst}
use Rattle.hv_task.specs.Strips.{atoms}
use Rattle.hv_explicit.specs.Working.Search.{ListedSearch}
use Rattle.hv_explicit.proofs.Anchored.{over_at}
use Rattle.hv_explicit.proofs.sets_query.SetsQuery.set.Goals as goal

pub returns-clause-over : goal.returns-clause-over
returns-clause-over c =
    let s = c.self.inside in
    subst (λ (p : ListedSearch). c.get.result.now.atoms ≡ atoms p.task) c.self.view_is
    (over_at s.sets.now (atoms s.task.now) c.args.number c.get.result.now
    c.self.invariant.search.over c.get.ensures)
