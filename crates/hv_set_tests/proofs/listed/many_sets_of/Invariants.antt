use Rattle.std.proofs.Common.{◌≡◌, length}
use Rattle.hv_explicit.specs.ListedStates.{AreListsOver}
use Rattle.hv_set_tests.proofs.listed.many_sets_of.Given as goal

abbrev pub invariant-loop-mask : goal.invariant-loop-mask
invariant-loop-mask l = record {
  len : length l.sets ≡ l.mask-index;
  over : AreListsOver l.sets 2;
}
