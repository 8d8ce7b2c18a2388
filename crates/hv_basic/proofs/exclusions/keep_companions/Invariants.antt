use Rattle.std.proofs.Common.{◌≡◌, length}
use Rattle.hv_basic.specs.Working.Excluded.{AreAbleAt}
use Rattle.hv_basic.proofs.exclusions.keep_companions.Given as goal

abbrev pub invariant-loop-atom : goal.invariant-loop-atom
invariant-loop-atom l = record {
  size : length l.able ≡ length l.companions.all;
  able : AreAbleAt (length l.companions.all) l.clauses l.companions.value l.into l.into l.action l.able;
}
