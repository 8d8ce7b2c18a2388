use Rattle.std.proofs.Common.{◌+◌, ◌∙◌, ◌++◌, ◌∷◌, []}
use Rattle.hv_proof_text.specs.Working.Gathering.{numbers_from}
use Rattle.hv_proof_text.specs.Working.Pieces.{state_piece}
use Rattle.hv_proof_text.proofs.TokenLists.{no_atom, rising_stop}
use Rattle.hv_proof_text.proofs.lists.take_number.Goals as goal

pub returns-in-End : goal.returns-in-End
returns-in-End c = record {
  taken = λ e. absurd (cc);
  stopped = λ _ tokens.
      rising_stop (state_piece c.args.least.now c.args.token)
      (λ n. numbers_from (c.args.numbers.now ++ n ∷ []) (n + 1) tokens)
      (λ n e. no_atom c.state_piece.result n c.in-End.is (c.state_piece.ensures ∙ e));
}
