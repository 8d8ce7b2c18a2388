use Rattle.std.proofs.Common.{◌≡◌, ◌-◌, length}
use Rattle.hv_explicit.specs.Working.Places.{IsLinked}
use Rattle.hv_explicit.proofs.places.settle.Given as goal

abbrev pub invariant-loop-crowded : goal.invariant-loop-crowded
invariant-loop-crowded l = record {
  linked : IsLinked l.codes l.before.items l.heads.items l.turn.factor (length l.heads.items)
      (length l.codes);
  before : length l.before.items ≡ length l.fn.before.items;
  heads : length l.heads.items ≡ length l.fn.heads.items;
}

abbrev pub decreases-loop-crowded : goal.decreases-loop-crowded
decreases-loop-crowded l = length l.codes - l.turn.long
