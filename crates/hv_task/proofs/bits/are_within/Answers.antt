use Rattle.std.proofs.Common.{◌≡◌, true, false, refl, arith}
use Rattle.hv_task.proofs.Turned.{within_all, within_more, within_word}
use Rattle.hv_task.proofs.bits.are_within.Goals as goal

pub loop-at-preserved : goal.loop-at-preserved
loop-at-preserved c =
    within_more c.args.words.now c.args.other.now c.loop-at.at c.outside.result c.outside.ensures
    c.if-outside-ne0.false c.loop-at.invariant

pub returns-then-outside-ne0 : goal.returns-then-outside-ne0
returns-then-outside-ne0 c = (
  λ e. let f : false ≡ true = e in absurd cc,
  λ within. absurd (c.if-outside-ne0.true
      (within_word c.args.words.now c.args.other.now c.loop-at.at c.outside.result
      c.outside.ensures (let fits = c.outside.type_inv in omega arith) within)),
)

pub returns : goal.returns
returns c = (
  λ _. within_all c.args.words.now c.args.other.now c.loop-at.at c.loop-at-test.false
      c.loop-at.invariant,
  λ _. refl,
)
