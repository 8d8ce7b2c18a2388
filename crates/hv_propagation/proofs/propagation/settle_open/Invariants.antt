use Rattle.std.proofs.Common.{◌≡◌}
use Rattle.hv_propagation.proofs.propagation.settle_open.Given as goal

abbrev pub invariant-loop : goal.invariant-loop
invariant-loop g l = l.marks ≡ l.initial.marks
