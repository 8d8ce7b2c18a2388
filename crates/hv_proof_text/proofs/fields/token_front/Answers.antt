use Rattle.std.proofs.Common.{◌≡◌, ◌<◌, ◌^◌, ℕ, List, ◌∷◌, codes, decimal}
use Rattle.hv_bytes.specs.Fields.{cut_fields}
use Rattle.hv_proof_text.specs.Working.Tokens.{IsNameToken, IsToken, field_of}
use Rattle.hv_proof_text.specs.declared.token.Token.{Token}
use Rattle.hv_proof_text.specs.declared.token.Token.TheVariants as T
use Rattle.hv_proof_text.proofs.fields.token_front.Goals as goal

-- a first field that is no number behind a dash, no end, no number and no name denotes no token
no_token : (fields : List (List ℕ))
    → ((n : ℕ) (later : List (List ℕ)) → n < 10 ^ 18 → fields ≡ (45 ∷ decimal n) ∷ later → ⊥)
    → ((later : List (List ℕ)) → fields ≡ codes ";" ∷ later → ⊥)
    → ((n : ℕ) (later : List (List ℕ)) → n < 10 ^ 18 → fields ≡ decimal n ∷ later → ⊥)
    → ((token : Token) (later : List (List ℕ)) → IsNameToken token → fields ≡ field_of token ∷ later
    → ⊥)
    → (token : Token) (later : List (List ℕ)) → IsToken token → fields ≡ field_of token ∷ later → ⊥
no_token fields minus end number name (T.Letter letter) later is e =
    name (T.Letter letter) later tt e
no_token fields minus end number name (T.Word word) later is e = name (T.Word word) later tt e
no_token fields minus end number name (T.Number n) later is e = number n later is e
no_token fields minus end number name (T.Minus n) later is e = minus n later is e
no_token fields minus end number name T.End later is e = end later e

pub returns-in_default-name_front : goal.returns-in_default-name_front
returns-in_default-name_front c =
    no_token (cut_fields c.args.line.now) c.in_default.ensures c.in_default-end_front.ensures
    c.in_default-decimal_front.ensures.none c.in_default-name_front.ensures
