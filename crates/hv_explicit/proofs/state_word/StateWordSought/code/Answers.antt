use Rattle.std.proofs.Common.{sym, subst}
use Rattle.hv_task.specs.State.{names_atom}
use Rattle.hv_explicit.specs.Working.Codes.{IsCode}
use Rattle.hv_explicit.specs.Working.Words.{word_atoms}
use Rattle.hv_explicit.proofs.Totals.{is_list_code}
use Rattle.hv_explicit.proofs.Packed.{word_code}
use Rattle.hv_explicit.proofs.state_word.StateWordSought.code.Goals as goal

pub returns-then-key-eq-BITS : goal.returns-then-key-eq-BITS
returns-then-key-eq-BITS c =
    let word = c.args.self.now.bits in
    subst (λ key. IsCode key (names_atom (word_atoms word)) word) (sym c.if-key-eq-BITS.true)
    (is_list_code 0 word (word_atoms word) (word_code word c.args.self.now.fits))
