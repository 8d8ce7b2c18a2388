use Rattle.std.specs.List.{Contains}
use Rattle.hv_rows.proofs.preconditions.place_for.Given as goal

abbrev pub invariant-loop-atom : goal.invariant-loop-atom
invariant-loop-atom l = Contains l.atoms l.place
