use Rattle.std.proofs.Common.{◌∙◌, sym}
use Rattle.std.specs.Int.{bit_at}
use Rattle.hv_task.proofs.Flags.{flag_from}
use Rattle.hv_explicit.specs.Working.Words.{word_atoms}
use Rattle.hv_explicit.proofs.Clashes.{below_list}
use Rattle.hv_explicit.proofs.Packed.{word_below, word_names}
use Rattle.hv_explicit.proofs.state_word.holds_atom.Goals as goal

pub returns-then-atom-ge64 : goal.returns-then-atom-ge64
returns-then-atom-ge64 c =
    sym (below_list 64 (word_atoms c.args.word) (word_below c.args.word) c.args.atom
    c.if-atom-ge64.true)

pub returns : goal.returns
returns c =
    flag_from c.has_bit.result (bit_at c.args.word c.args.atom) c.has_bit.ensures
    ∙ sym (word_names c.args.word c.args.atom c.ranges.word.fits)
