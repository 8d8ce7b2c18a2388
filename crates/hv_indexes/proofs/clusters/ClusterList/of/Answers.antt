use Rattle.std.proofs.Common.{◌+◌, ap, arith, length, refl, subst}
use Rattle.std.proofs.lemmas.List.{get_or_default}
use Rattle.hv_indexes.specs.declared.rows.RowHead.{RowHead}
use Rattle.hv_indexes.specs.Working.Mates.{AreClustersUpto}
use Rattle.hv_indexes.specs.Rows.{IsEndBefore}
use Rattle.hv_indexes.proofs.Keyed.{headed_ends, headed_upto}
use Rattle.hv_indexes.proofs.Mated.{clusters_none, part_inside, puts_cluster}
use Rattle.hv_indexes.proofs.clusters.ClusterList.of.Goals as goal

pub loop-at-init : goal.loop-at-init
loop-at-init c =
    clusters_none c.args.clauses.now c.args.heads.now c.args.places.now c.new-list.result
    c.new-list.ensures.clusters c.new-list.ensures.screens

pub part_of-range-requires : goal.part_of-range-requires
part_of-range-requires c = c.requires.heads

pub slice_bounds-part-count : goal.slice_bounds-part-count
slice_bounds-part-count c =
    headed_upto c.args.heads.now _ _ c.part_of-range.result.from c.part_of-range.result.upto
    c.part_of-range.ensures.from c.part_of-range.ensures.upto c.requires.heads

pub slice_bounds-part-start : goal.slice_bounds-part-start
slice_bounds-part-start c =
    headed_upto c.args.heads.now _ _ c.part_of-range.result.from c.part_of-range.result.upto
    c.part_of-range.ensures.from c.part_of-range.ensures.upto c.requires.heads

pub slice_bounds-part-end : goal.slice_bounds-part-end
slice_bounds-part-end c =
    headed_ends c.args.heads.now _ _ c.part_of-range.result.from c.part_of-range.result.upto
    c.part_of-range.ensures.from c.part_of-range.ensures.upto c.requires.heads

pub of-requires-clause-places : goal.of-requires-clause-places
of-requires-clause-places c =
    let range = c.part_of-range.result in
    part_inside c.args.places.now range.from range.upto (length c.args.clauses.now)
    (headed_ends c.args.heads.now _ _ range.from range.upto c.part_of-range.ensures.from
    c.part_of-range.ensures.upto c.requires.heads) c.requires.places

pub of-requires-clause-full : goal.of-requires-clause-full
of-requires-clause-full c = c.in_ok-full.ensures

pub of-requires-clause-standing : goal.of-requires-clause-standing
of-requires-clause-standing c =
    c.standing-standing.ensures.standing c.args.clauses.now c.requires.occurs

pub loop-at-preserved : goal.loop-at-preserved
loop-at-preserved c =
    let range = c.part_of-range.result in
    let starts = headed_upto c.args.heads.now _ _ range.from range.upto
    c.part_of-range.ensures.from c.part_of-range.ensures.upto c.requires.heads in
    let ends = headed_ends c.args.heads.now _ _ range.from range.upto
    c.part_of-range.ensures.from c.part_of-range.ensures.upto c.requires.heads in
    puts_cluster c.args.clauses.now c.args.heads.now c.args.places.now c.loop-at.at
    c.loop-at.list c.put.new.self c.loop-at.invariant range c.in_ok-screen.screen
    c.in_ok-put.ensures starts ends c.in_ok-screen.ensures.screened c.in_ok-screen.ensures.exact
    (λ codes are size d.
    let same = ap (λ (h : RowHead). h.key)
    (get_or_default c.args.heads.now c.loop-at.at _ d c.loop-at-test.true) in (
      range.from,
      range.upto,
      subst (λ key. IsEndBefore key codes range.from) same
          (c.part_of-range.ensures.from codes are size),
      subst (λ key. IsEndBefore (key + 1) codes range.upto) same
          (c.part_of-range.ensures.upto codes are size),
      refl,
    ))

pub returns : goal.returns
returns c =
    subst (λ n. AreClustersUpto c.args.clauses.now c.args.heads.now c.args.places.now n
    c.loop-at.list) (omega (arith, c.loop-at-test.false, c.loop-at.auto.at-end))
    c.loop-at.invariant
