use Rattle.std.proofs.Common.{◌⊎◌}
use Rattle.std.specs.List.{Contains}
use Rattle.hv_sets.specs.declared.literal.Literal.{Literal}
use Rattle.hv_basic.specs.Sharing.{NamesLiteral}
use Rattle.hv_basic.proofs.rights.put_short.Given as goal

abbrev pub invariant-loop-literal : goal.invariant-loop-literal
invariant-loop-literal l = (literal : Literal) → NamesLiteral l.enough literal
    → NamesLiteral l.fn.enough literal ⊎ Contains l.clause literal
