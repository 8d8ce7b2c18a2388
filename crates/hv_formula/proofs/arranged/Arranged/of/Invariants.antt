use Rattle.std.proofs.Common.{[], length}
use Rattle.hv_formula.specs.Rest.{AreTrueUpto, IsArranged}
use Rattle.hv_formula.proofs.arranged.Arranged.of.Given as goal

abbrev pub invariant-loop-place : goal.invariant-loop-place
invariant-loop-place l =
    IsArranged (length l.clauses) l.arranged
    × AreTrueUpto l.clauses [] l.arranged.order.items l.arranged.done
