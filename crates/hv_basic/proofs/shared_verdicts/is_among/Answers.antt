use Rattle.std.proofs.Common.{◌∙◌, false}
use Rattle.std.proofs.lemmas.List.{get_or_default}
use Rattle.hv_basic.proofs.shared_verdicts.is_among.Goals as goal

pub returns : goal.returns
returns c = λ yes. (
  c.lesser_before-place.result,
  c.if-place-asked.false,
  get_or_default c.args.asked.now c.lesser_before-place.result c.args.one (0, false)
      c.if-place-asked.false
      ∙ c.is_same.ensures yes,
)
