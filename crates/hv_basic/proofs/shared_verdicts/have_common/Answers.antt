use Rattle.std.proofs.Common.{false, get_or, refl}
use Rattle.std.proofs.lemmas.List.Elements.{Contains-get_or}
use Rattle.hv_basic.proofs.shared_verdicts.have_common.Goals as goal

pub returns-then-is_among : goal.returns-then-is_among
returns-then-is_among c = λ _. (
  get_or c.args.first.now c.loop-one.one-index (0, false),
  Contains-get_or c.args.first.now c.loop-one.one-index (0, false) c.loop-one-test.true,
  c.if-is_among.ensures refl,
)
