use Rattle.std.proofs.Common.{◌≡◌, length}
use Rattle.hv_bdd.specs.Working.Digits.{AreDigits}
use Rattle.hv_bdd.proofs.numbers.digit_table.Given as goal

abbrev pub invariant-loop-digit : goal.invariant-loop-digit
invariant-loop-digit l = record {
  size : length l.digits ≡ 512;
  are : AreDigits l.digits;
}
