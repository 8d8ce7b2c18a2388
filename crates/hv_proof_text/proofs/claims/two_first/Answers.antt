use Rattle.std.proofs.Common.{◌∷◌}
use Rattle.hv_bytes.specs.Working.Fields.{fields_behind}
use Rattle.hv_proof_text.specs.Working.Tokens.{number}
use Rattle.hv_proof_text.proofs.KnownForms.{behind_number}
use Rattle.hv_proof_text.proofs.claims.two_first.Goals as goal

pub returns-in_default-first_number : goal.returns-in_default-first_number
returns-in_default-first_number c = λ m n tokens are.
    c.in_default-first_number.ensures n tokens
    (behind_number c.in-Some.left m (number n ∷ tokens) (fields_behind c.args.fields (λ f. f.now))
    (fields_behind c.in-Some.behind (λ f. f.now)) c.in-Some.ensures.1 are)
