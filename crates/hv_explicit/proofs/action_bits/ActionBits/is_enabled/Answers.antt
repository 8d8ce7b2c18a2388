use Rattle.hv_explicit.specs.Working.Words.{word_atoms}
use Rattle.hv_explicit.proofs.Bits.{all_held, bits_held}
use Rattle.hv_explicit.proofs.Packed.{word_below, word_code}
use Rattle.hv_explicit.proofs.action_bits.ActionBits.is_enabled.Goals as goal

pub returns : goal.returns
returns c =
    let word = c.args.state.bits in
    let held = word_atoms word in
    let bits = c.args.self.now in
    let below = word_below word in
    let coded = word_code word c.args.state.fits in (
      λ e. all_held held bits.action.now.pre word bits.pre below bits.over.pre coded bits.pre_is
          (c.has_bits.ensures.0 e),
      λ all. c.has_bits.ensures.1
          (bits_held held bits.action.now.pre word bits.pre below bits.over.pre coded bits.pre_is
          all),
    )
