-- Lines with lists, and those without: what is found behind a head.
use Rattle.std.proofs.Common.{◌≡◌, ℕ, ◌∙◌, List, Option, Some, None, MatchOption, length, refl, sym}
use Rattle.std.proofs.Common.{subst}
use Rattle.hv_sets.specs.declared.literal.Literal.{Literal}
use Rattle.hv_lines.specs.declared.line.Line.{Line}
use Rattle.hv_proof_text.specs.Working.Forms.{LineForm}
use Rattle.hv_proof_text.specs.Working.Gathering.{BeginsWithCount, StandFor}
use Rattle.hv_proof_text.specs.Working.Heads.{listed_by, listed_kind, listed_letter}
use Rattle.hv_proof_text.specs.Working.Tokens.{AreClauseTokens, AreRisingNumbers, AreStateTokens}
use Rattle.hv_proof_text.specs.Working.Tokens.{AreTokens}
use Rattle.hv_proof_text.specs.declared.token_rows.ListKind.{ListKind}
use Rattle.hv_proof_text.specs.declared.token.Letter.{Letter}
use Rattle.hv_proof_text.specs.declared.token.Token.{Token}
use Rattle.hv_proof_text.proofs.Decoding.{same_tokens}
use Rattle.hv_proof_text.proofs.TokenLists.{some_injective}
use Rattle.hv_proof_text.specs.declared.token.Letter.TheVariants as L

module _ (id : ℕ) (fields : List (List ℕ)) where
  pub acts_none : ((actions : List ℕ) → StandFor
      (BeginsWithCount (AreRisingNumbers actions) (length actions)) fields → ⊥)
      → (line : Line) → StandFor (λ ts. LineForm L.A id L.B ts line) fields → ⊥
  acts_none never line stand =
      let form = stand.2.1 in never form.0 (stand.0, stand.1, (form.1, form.2, form.3))

  pub horn_none : ((clauses : List (List Literal))
      → StandFor (BeginsWithCount (AreClauseTokens clauses) (length clauses)) fields → ⊥)
      → (line : Line) → StandFor (λ ts. LineForm L.E id L.H ts line) fields → ⊥
  horn_none never line stand =
      let form = stand.2.1 in never form.0 (stand.0, stand.1, (form.1, form.2, form.3))

  pub dual_none : ((clauses : List (List Literal))
      → StandFor (BeginsWithCount (AreClauseTokens clauses) (length clauses)) fields → ⊥)
      → (line : Line) → StandFor (λ ts. LineForm L.E id L.D ts line) fields → ⊥
  dual_none never line stand =
      let form = stand.2.1 in never form.0 (stand.0, stand.1, (form.1, form.2, form.3))

  pub two_none : ((clauses : List (List Literal))
      → StandFor (BeginsWithCount (AreClauseTokens clauses) (length clauses)) fields → ⊥)
      → (line : Line) → StandFor (λ ts. LineForm L.E id L.T ts line) fields → ⊥
  two_none never line stand =
      let form = stand.2.1 in never form.0 (stand.0, stand.1, (form.1, form.2, form.3))

  pub states_none : ((states : List (List ℕ))
      → StandFor (BeginsWithCount (AreStateTokens states) (length states)) fields → ⊥)
      → (line : Line) → StandFor (λ ts. LineForm L.E id L.X ts line) fields → ⊥
  states_none never line stand =
      let form = stand.2.1 in never form.0 (stand.0, stand.1, (form.1, form.2, form.3))

-- a list is behind its own letters alone

abbrev AreLetters : Letter → Letter → ListKind → Type 0
AreLetters letter kind listed = (letter ≡ listed_letter listed) × (kind ≡ listed_kind listed)

behind_a : (kind : Letter) (listed : ListKind) → listed_by L.A kind ≡ Some listed
    → AreLetters L.A kind listed
behind_a L.B listed e = subst (AreLetters L.A L.B) (some_injective e) (refl, refl)
behind_a _ listed e = absurd (cc)

behind_e : (kind : Letter) (listed : ListKind) → listed_by L.E kind ≡ Some listed
    → AreLetters L.E kind listed
behind_e L.H listed e = subst (AreLetters L.E L.H) (some_injective e) (refl, refl)
behind_e L.D listed e = subst (AreLetters L.E L.D) (some_injective e) (refl, refl)
behind_e L.T listed e = subst (AreLetters L.E L.T) (some_injective e) (refl, refl)
behind_e L.X listed e = subst (AreLetters L.E L.X) (some_injective e) (refl, refl)
behind_e _ listed e = absurd (cc)

pub listed_letters : (letter kind : Letter) (listed : ListKind) → listed_by letter kind ≡ Some
    listed
    → AreLetters letter kind listed
listed_letters L.A kind listed e = behind_a kind listed e
listed_letters L.E kind listed e = behind_e kind listed e
listed_letters _ kind listed e = absurd (cc)

-- what is found for the tokens is found for the fields
pub plain_behind : (tokens shown : List Token) (fields : List (List ℕ)) (letter : Letter) (id : ℕ)
    (kind : Letter) (found : Option Line)
    → shown ≡ tokens → AreTokens tokens fields
    → MatchOption found ((line : Line) → LineForm letter id kind shown line → ⊥)
    (λ line. LineForm letter id kind shown line)
    → MatchOption found ((line : Line) → StandFor (λ ts. LineForm letter id kind ts line) fields
    → ⊥)
    (λ line. StandFor (λ ts. LineForm letter id kind ts line) fields)
plain_behind tokens shown fields letter id kind (Some line) e are form =
    (tokens, are, subst (λ ts. LineForm letter id kind ts line) e form)
plain_behind tokens shown fields letter id kind None e are never = λ line stand.
    let same = same_tokens stand.0 tokens stand.1.each are.each (stand.1.same ∙ sym are.same) in
    never line (subst (λ ts. LineForm letter id kind ts line) (same ∙ sym e) stand.2)
