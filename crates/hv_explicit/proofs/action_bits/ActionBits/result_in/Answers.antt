use Rattle.hv_task.specs.Atoms.{is_after}
use Rattle.hv_explicit.specs.Working.Words.{word_atoms}
use Rattle.hv_explicit.proofs.Bits.{after_bits, exact_same}
use Rattle.hv_explicit.proofs.Clashes.{below_after}
use Rattle.hv_explicit.proofs.Totals.{is_after_code}
use Rattle.hv_explicit.proofs.Packed.{word_below, word_code}
use Rattle.std.proofs.Common.{arith}
use Rattle.hv_explicit.proofs.action_bits.ActionBits.result_in.Goals as goal

pub returns : goal.returns
returns c =
    let word = c.args.state.bits in
    let held = word_atoms word in
    let bits = c.args.self.now in
    let action = bits.action.now in
    let next = c.bits_after-bits.result in
    let fits = c.bits_after-bits.type_inv in
    let below = word_below word in
    exact_same 64 (omega arith) (is_after action held) (word_atoms next) next
    (is_after_code 0 next action held
    (after_bits action held word bits.add bits.del next below bits.over
    (word_code word c.args.state.fits) bits.add_is bits.del_is fits
    c.bits_after-bits.ensures))
    (below_after 64 action held below bits.over) (word_below next) (word_code next fits)
