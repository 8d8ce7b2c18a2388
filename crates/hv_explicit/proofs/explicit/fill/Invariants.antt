use Rattle.std.proofs.Common.{◌≡◌}
use Rattle.hv_explicit.specs.ListedStates.{full_cube}
use Rattle.hv_explicit.proofs.explicit.fill.Given as goal

abbrev pub invariant-loop-atom : goal.invariant-loop-atom
invariant-loop-atom l = l.cube ≡ full_cube l.atom l.held
