use Rattle.std.proofs.Common.{refl}
use Rattle.hv_indexes.proofs.Keyed.{headed_ends, headed_upto}
use Rattle.hv_indexes.proofs.rows.numbers_at.Goals as goal

pub part_of-part-requires : goal.part_of-part-requires
part_of-part-requires c = c.requires

pub slice_bounds-result-count : goal.slice_bounds-result-count
slice_bounds-result-count c =
    headed_upto c.args.heads.now _ _ c.part_of-part.result.from c.part_of-part.result.upto
    c.part_of-part.ensures.from c.part_of-part.ensures.upto c.requires

pub slice_bounds-result-start : goal.slice_bounds-result-start
slice_bounds-result-start c =
    headed_upto c.args.heads.now _ _ c.part_of-part.result.from c.part_of-part.result.upto
    c.part_of-part.ensures.from c.part_of-part.ensures.upto c.requires

pub slice_bounds-result-end : goal.slice_bounds-result-end
slice_bounds-result-end c =
    headed_ends c.args.heads.now _ _ c.part_of-part.result.from c.part_of-part.result.upto
    c.part_of-part.ensures.from c.part_of-part.ensures.upto c.requires

pub returns : goal.returns
returns c = λ codes are size. (
  c.part_of-part.result.from,
  c.part_of-part.result.upto,
  c.part_of-part.ensures.from codes are size,
  c.part_of-part.ensures.upto codes are size,
  refl,
)
