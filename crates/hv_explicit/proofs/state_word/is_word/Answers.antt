use Rattle.std.proofs.Common.{◌≡◌, false, true, refl, subst, arith}
use Rattle.hv_task.specs.State.{names_atom}
use Rattle.hv_explicit.specs.Working.Codes.{IsCode}
use Rattle.hv_explicit.specs.Working.Words.{word_atoms}
use Rattle.hv_explicit.proofs.Bits.{exact_same}
use Rattle.hv_explicit.proofs.Totals.{is_list_code, one_code}
use Rattle.hv_explicit.proofs.Packed.{word_below, word_code}
use Rattle.hv_explicit.proofs.state_word.is_word.Goals as goal

pub returns-then-code-word : goal.returns-then-code-word
returns-then-code-word g c =
    let set = g.A.Sought.has c.args.held.now in
    let word = c.args.word in (
      λ e. let f : false ≡ true = e in absurd cc,
      λ same. absurd (c.if-code-word.true
          (one_code 0 set (names_atom (word_atoms word)) c.code-code.result word
          c.code-code.ensures
          (is_list_code 0 word (word_atoms word) (word_code word c.ranges.word.fits)) same)),
    )

pub returns : goal.returns
returns g c =
    let set = g.A.Sought.has c.args.held.now in
    let word = c.args.word in
    let few = c.requires.few in (
      λ _. exact_same 64 (omega arith) set (word_atoms word) word
          (subst (λ code. IsCode 0 set code) c.if-code-word.false c.code-code.ensures)
          (λ p past. c.requires.held p (omega arith)) (word_below word)
          (word_code word c.ranges.word.fits),
      λ _. refl,
    )
