use Rattle.std.proofs.Common.{◌∷◌, decimal}
use Rattle.hv_bytes.specs.Fields.{cut_fields}
use Rattle.hv_bytes.specs.Working.Fields.{fields_behind}
use Rattle.hv_proof_text.specs.Working.Tokens.{letter, letter_field, number}
use Rattle.hv_proof_text.proofs.Gathered.{tokens_behind}
use Rattle.hv_proof_text.proofs.token_rows.head_of.Goals as goal

pub returns-in_default-first_number : goal.returns-in_default-first_number
returns-in_default-first_number c = λ first id kind tokens are.
    c.in_default-first_number.ensures id (letter kind ∷ tokens)
    (tokens_behind (letter first) (number id ∷ letter kind ∷ tokens) (cut_fields c.args.line.now)
    (fields_behind c.in-Some.behind (λ f. f.now)) (letter_field c.in-Some.letter) are
    c.in-Some.ensures)

pub returns-in_default-first_letter : goal.returns-in_default-first_letter
returns-in_default-first_letter c = λ first id kind tokens are.
    let behind =
    tokens_behind (letter first) (number id ∷ letter kind ∷ tokens) (cut_fields c.args.line.now)
    (fields_behind c.in-Some.behind (λ f. f.now)) (letter_field c.in-Some.letter) are
    c.in-Some.ensures in
    c.in_default-first_letter.ensures kind tokens
    (tokens_behind (number id) (letter kind ∷ tokens) (fields_behind c.in-Some.behind (λ f. f.now))
    (fields_behind c.in-Some-first_number.behind (λ f. f.now)) (decimal c.in-Some-first_number.id)
    behind c.in-Some-first_number.ensures.1)
