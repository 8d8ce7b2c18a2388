use Rattle.std.proofs.Common.{◌∙◌, ◌+◌, ◌/◌, ◌^◌, ap, arith, eqb, w64}
use Rattle.std.specs.Int.{trailing_zeros}
use Rattle.hv_task.proofs.Flags.{first_past, none_past, part_fits}
use Rattle.hv_explicit.specs.Working.Words.{word_atoms}
use Rattle.hv_explicit.proofs.Clashes.{below_list}
use Rattle.hv_explicit.proofs.Packed.{word_below, word_names}
use Rattle.hv_explicit.proofs.state_word.next_atom.Goals as goal

pub returns-then-from-ge64 : goal.returns-then-from-ge64
returns-then-from-ge64 c = λ p upto.
    below_list 64 (word_atoms c.args.word) (word_below c.args.word) p
    (let past = c.if-from-ge64.true in omega arith)

pub returns-then-rest-eq0 : goal.returns-then-rest-eq0
returns-then-rest-eq0 c = λ p upto.
    word_names c.args.word p c.ranges.word.fits
    ∙ ap (λ b. eqb b 1) (none_past c.args.word c.args.from p c.if-rest-eq0.true upto)

pub returns : goal.returns
returns c =
    let some = c.if-rest-eq0.false in
    let word = c.args.word in
    let first = first_past word c.args.from (omega arith)
    (part_fits word c.args.from c.ranges.word.fits) c.ranges.word.fits in (
      first.0,
      word_names word (c.args.from + trailing_zeros w64 (word / 2 ^ c.args.from))
          c.ranges.word.fits
          ∙ ap (λ b. eqb b 1) first.2,
      λ p upto less. word_names word p c.ranges.word.fits
          ∙ ap (λ b. eqb b 1) (first.3 p upto less),
    )
