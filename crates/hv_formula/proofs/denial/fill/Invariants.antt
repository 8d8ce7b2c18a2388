use Rattle.hv_formula.proofs.Outside.{IsDenied}
use Rattle.hv_formula.proofs.denial.fill.Given as goal

abbrev pub invariant-loop-literal : goal.invariant-loop-literal
invariant-loop-literal l = IsDenied l.literal-index l.clause l.cube
