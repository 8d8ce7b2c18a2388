use Rattle.std.proofs.Common.{◌∙◌, ◌<◌, List, arith, get_or, length, subst, sym, ℕ}
use Rattle.std.proofs.lemmas.List.{get_or_default}
use Rattle.std.specs.List.{Contains}
use Rattle.std.specs.Prelude.{slice_range}
use Rattle.hv_indexes.specs.declared.clusters.Cluster.{Cluster}
use Rattle.hv_indexes.specs.Mates.{AreTried, cluster_places}
use Rattle.hv_indexes.proofs.Mated.{cluster_at, cluster_decided, part_inside, screen_less}
use Rattle.hv_indexes.proofs.clusters.Clusters.holds.Goals as goal

pub index-cluster-requires : goal.index-cluster-requires
index-cluster-requires c =
    let size = c.requires.are.size in
    let made = c.args.self.now.list.clusters.ok.0 in
    omega (arith, c.requires.at, size, made)

pub index-requires : goal.index-requires
index-requires c =
    let them = c.args.self.now in
    let cluster = c.index-cluster.result.now in
    let less = screen_less them.list.screens.items them.places.items c.args.clauses.now cluster
    c.in-Some.screen c.in-Some.is
    (cluster_at c.args.clauses.now them c.requires.are c.args.at c.requires.at cluster
    c.index-cluster.ensures) in
    let made = them.list.screens.ok.0 in
    omega (arith, less, made)

pub returns-in-Some-decides : goal.returns-in-Some-decides
returns-in-Some-decides c =
    cluster_decided c.args.clauses.now c.args.self.now c.args.state.now c.requires.are
    c.requires.clauses c.args.at c.requires.at c.index-cluster.result.now c.index-cluster.ensures
    c.in-Some.screen c.in-Some.is c.index.result.now c.index.ensures c.in-Some-decides.decided
    c.in-Some-decides.ensures

pub slice_bounds-are_true-count : goal.slice_bounds-are_true-count
slice_bounds-are_true-count c =
    let is = cluster_at c.args.clauses.now c.args.self.now c.requires.are c.args.at c.requires.at
    c.index-cluster.result.now c.index-cluster.ensures in
    is.starts

pub are_true-requires-clause-clauses : goal.are_true-requires-clause-clauses
are_true-requires-clause-clauses c = c.requires.clauses

pub are_true-requires-clause-places : goal.are_true-requires-clause-places
are_true-requires-clause-places c =
    let them = c.args.self.now in
    let range = c.index-cluster.result.now.range in
    let is = cluster_at c.args.clauses.now them c.requires.are c.args.at c.requires.at
    c.index-cluster.result.now c.index-cluster.ensures in
    subst (λ (ns : List ℕ). (k : ℕ) → k < length (slice_range ns range.from range.upto)
    → get_or (slice_range ns range.from range.upto) k 0 < length c.args.clauses.now)
    (sym c.deref.ensures.value)
    (part_inside them.places.items range.from range.upto (length c.args.clauses.now) is.ends
    c.requires.are.inside)

pub returns : goal.returns
returns c = λ e.
    let clauses = c.args.clauses.now in
    let them = c.args.self.now in
    let state = c.args.state.now in
    let cluster = c.index-cluster.result.now in
    let size = c.requires.are.size in
    let same = c.index-cluster.ensures
    ∙ get_or_default them.list.clusters.items c.args.at cluster e
    (omega (arith, c.requires.at, size)) in
    subst (λ (k : Cluster). AreTried c.are_true.result clauses
    (Contains (cluster_places them.places.items k)) state) same
    (subst (λ (ns : List ℕ). AreTried c.are_true.result clauses
    (Contains (cluster_places ns cluster)) state) c.deref.ensures.value c.are_true.ensures)
