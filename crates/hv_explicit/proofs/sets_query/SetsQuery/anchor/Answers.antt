use Rattle.std.proofs.Common.{subst, sym}
use Rattle.std.specs.List.{Contains}
use Rattle.hv_sets.specs.Query.{IsAnchor}
use Rattle.hv_explicit.specs.Working.Search.{ListedSearch, NamesAnchor}
use Rattle.hv_explicit.proofs.Anchored.{names_anchor}
use Rattle.hv_explicit.proofs.sets_query.SetsQuery.anchor.Goals as goal

pub returns-in-Some : goal.returns-in-Some
returns-in-Some c =
    let s = c.self.inside in
    let o = c.in-Some.anchor in
    subst (λ (p : ListedSearch). NamesAnchor p o.which) c.self.view_is
    (names_anchor (record { task = s.task.now; sets = s.sets.now; query = s.query.now })
    c.self.invariant.search.ready o
    (subst (λ operands. IsAnchor operands o) c.as_slice.ensures c.in-Some.ensures))

pub returns-in-None : goal.returns-in-None
returns-in-None c =
    let anchor = c.self.invariant.search.anchor in
    absurd (c.in-None.ensures anchor.0 (subst
    (λ operands. Contains operands anchor.0) (sym c.as_slice.ensures) anchor.1) anchor.2)
