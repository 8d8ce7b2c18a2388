use Rattle.std.proofs.Common.{get_or}
use Rattle.std.proofs.lemmas.Option.{slice_get-get_or}
use Rattle.hv_basic.proofs.kept_joints.leaves_at.Goals as goal

pub returns-then-lefts-place : goal.returns-then-lefts-place
returns-then-lefts-place c = (
  get_or c.args.lefts.now c.loop-place.place c.index-lefts-place.result,
  slice_get-get_or c.args.lefts.now c.loop-place.place c.index-lefts-place.result
      c.loop-place-test.true,
  c.if-lefts-place.true,
)
