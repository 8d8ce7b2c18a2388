use Rattle.std.specs.Option.{IfSome}
use Rattle.hv_basic.specs.Working.Framed.{IsFramed}
use Rattle.hv_basic.proofs.framed.frame_of.Given as goal

abbrev pub invariant-loop-operand : goal.invariant-loop-operand
invariant-loop-operand l =
    IfSome l.best (λ frame. IsFramed l.positive l.negative frame.number frame.into)
