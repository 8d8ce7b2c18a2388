use Rattle.std.proofs.Common.{inl, inr, subst, sym}
use Rattle.std.proofs.lemmas.List.Elements.{Contains-get_or}
use Rattle.std.specs.Option.{IfSome}
use Rattle.hv_basic.specs.Working.Framed.{IsFramed}
use Rattle.hv_basic.proofs.Crossing.{any_framed}
use Rattle.hv_basic.proofs.framed.frame_of.Goals as goal

pub loop-operand-preserved : goal.loop-operand-preserved
loop-operand-preserved c =
    let positive = c.args.positive.now in
    let negative = c.args.negative.now in
    elim c.cheaper-best.ensures [
      | inl same ↦
          subst
          (λ found. IfSome found (λ frame. IsFramed positive negative frame.number frame.into))
          (sym same) c.loop-operand.invariant
      | inr same ↦
          subst
          (λ found. IfSome found (λ frame. IsFramed positive negative frame.number frame.into))
          (sym same)
          (any_framed _ positive negative c.frame_near.result
          (Contains-get_or positive c.loop-operand.operand-index _ c.loop-operand-test.true)
          c.frame_near.ensures)
    ]
