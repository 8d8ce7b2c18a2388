use Rattle.std.proofs.Common.{◌∙◌, ◌+◌, ◌*◌, ◌^◌, replicate, set}
use Rattle.std.proofs.lemmas.List.{get_or-replicate, length-replicate, length-set}
use Rattle.hv_bdd.proofs.ShortFronts.{no_digits, one_digit, ten_times}
use Rattle.hv_bdd.proofs.numbers.digit_table.Goals as goal

pub loop-digit-init : goal.loop-digit-init
loop-digit-init c = record {
  size = length-replicate 512 (2 ^ 32);
  are = no_digits (replicate 512 (2 ^ 32))
      (λ k less. get_or-replicate 512 k (2 ^ 32) 0 less);
}

pub loop-digit-preserved : goal.loop-digit-preserved
loop-digit-preserved c =
    let digits = c.loop-digit.digits in
    let digit = c.loop-digit.digit in
    let less = c.loop-digit-test.true in
    let size = c.loop-digit.invariant.size in
    let once = set digits (48 + digit) digit in
    let still = length-set digits (48 + digit) digit ∙ size in
    record {
      size = length-set once (304 + digit) (digit * 10) ∙ still;
      are = ten_times once still (one_digit digits size c.loop-digit.invariant.are digit less)
          digit less;
    }
