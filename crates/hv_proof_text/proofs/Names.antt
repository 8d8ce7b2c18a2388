-- First fields that are no letter and no word.
use Rattle.std.proofs.Common.{◌≡◌, ◌∙◌, ℕ, List, [], ◌∷◌, ap}
use Rattle.hv_lines.specs.Spelling.{word_field}
use Rattle.hv_lines.specs.declared.line.Word.{Word}
use Rattle.hv_lines.proofs.WordTable.{word_plain}
use Rattle.hv_proof_text.specs.Working.Tokens.{IsNameToken, field_of, letter_field}
use Rattle.hv_proof_text.specs.declared.token.Letter.{Letter}
use Rattle.hv_proof_text.specs.declared.token.Token.{Token}
use Rattle.hv_proof_text.specs.declared.token.Token.TheVariants as T

-- the first field isn't two bytes
pub no_pair : (fields : List (List ℕ))
    → ((letter : Letter) (later : List (List ℕ)) → fields ≡ letter_field letter ∷ later → ⊥)
    → ((first second : ℕ) (later : List (List ℕ)) → fields ≡ (first ∷ second ∷ []) ∷ later → ⊥)
    → (token : Token) (later : List (List ℕ)) → IsNameToken token → fields ≡ field_of token ∷ later
    → ⊥
no_pair fields letter pair (T.Letter l) later is e = letter l later e
no_pair fields letter pair (T.Word word) later is e =
    let plain = word_plain word in
    pair plain.first plain.second later (e ∙ ap (λ field. field ∷ later) plain.two)
no_pair fields letter pair (T.Number n) later is e = is
no_pair fields letter pair (T.Minus n) later is e = is
no_pair fields letter pair T.End later is e = is

-- the first field is two bytes that no word has
pub no_word : (fields rest : List (List ℕ)) (first second : ℕ)
    → ((letter : Letter) (later : List (List ℕ)) → fields ≡ letter_field letter ∷ later → ⊥)
    → fields ≡ (first ∷ second ∷ []) ∷ rest
    → ((word : Word) → word_field word ≡ first ∷ second ∷ [] → ⊥)
    → (token : Token) (later : List (List ℕ)) → IsNameToken token → fields ≡ field_of token ∷ later
    → ⊥
no_word fields rest first second letter pair never (T.Letter l) later is e = letter l later e
no_word fields rest first second letter pair never (T.Word word) later is e =
    let same : word_field word ≡ first ∷ second ∷ [] = cc in never word same
no_word fields rest first second letter pair never (T.Number n) later is e = is
no_word fields rest first second letter pair never (T.Minus n) later is e = is
no_word fields rest first second letter pair never T.End later is e = is
