use Rattle.std.proofs.Common.{◌≡◌, take}
use Rattle.std.specs.Str.Parse.{AllDigits, digits_value}
use Rattle.hv_bytes.proofs.front.digit_front.Given as goal

abbrev pub invariant-loop-count : goal.invariant-loop-count
invariant-loop-count l =
    AllDigits 10 (take l.count l.bytes) × (l.number ≡ digits_value 10 (take l.count l.bytes))
