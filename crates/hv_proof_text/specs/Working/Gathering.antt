-- Lists that are gathered from the fields of a line, one field after the other.
use Rattle.std.specs.Prelude.{◌≡◌, ◌+◌, ℕ, List, [], ◌∷◌, ◌++◌, Option, None, Some, map}
use Rattle.std.specs.List.{All}
use Rattle.hv_sets.specs.declared.literal.Literal.{Literal}
use Rattle.hv_proof_text.specs.Working.Pieces.{clause_piece, state_piece}
use Rattle.hv_proof_text.specs.Working.Tokens.{AreTokens, IsToken, field_of, number}
use Rattle.hv_proof_text.specs.declared.lists.ClausePiece.{ClausePiece}
use Rattle.hv_proof_text.specs.declared.lists.ClausePiece.TheVariants as P
use Rattle.hv_proof_text.specs.declared.lists.StatePiece.{StatePiece}
use Rattle.hv_proof_text.specs.declared.lists.StatePiece.TheVariants as Q
use Rattle.hv_proof_text.specs.declared.token.Token.{Token}

-- the fields denote tokens of which this holds
abbrev pub StandFor : (List Token → Type 0) → List (List ℕ) → Type 0
StandFor holds fields = (tokens : List Token) × AreTokens tokens fields × holds tokens

-- the tokens are a count, and others of which this holds
abbrev pub BeginsWithCount : (List Token → Type 0) → ℕ → List Token → Type 0
BeginsWithCount holds count tokens =
    (items : List Token) × (tokens ≡ number count ∷ items) × holds items

-- what reading gives before a token is what it gives after it, with the token first
abbrev pub ReadsToken : {A : Type 0} → (List Token → A) → Token → (List Token → A) → Type 0
ReadsToken before token after = (tokens : List Token) → before (token ∷ tokens) ≡ after tokens

-- reading gives nothing where this token comes
abbrev pub StopsAtToken : {A : Type 0} → (List Token → Option A) → Token → Type 0
StopsAtToken before token = (tokens : List Token) → before (token ∷ tokens) ≡ None

-- some of the fields were read, and the rest is left, of which reading goes on to give the whole
abbrev pub Gathers : {A : Type 0} → (List Token → A) → List (List ℕ) → (List Token → A)
    → List (List ℕ) → Type 0
Gathers whole fields left rest =
    (done : List Token) × All IsToken done × (map field_of done ++ rest ≡ fields)
    × ((tokens : List Token) → whole (done ++ tokens) ≡ left tokens)

-- Rising numbers.

-- what to go on with at the next number; anything else ends the reading in vain
abbrev pub rising_next : StatePiece → (ℕ → Option (List ℕ)) → Option (List ℕ)
rising_next (Q.Atom n) go = go n
rising_next Q.End go = None
rising_next Q.Other go = None

-- the numbers so far and those of the tokens, whose next is at least so great
abbrev pub numbers_from : List ℕ → ℕ → List Token → Option (List ℕ)
numbers_from done least [] = Some done
numbers_from done least (token ∷ tokens) =
    rising_next (state_piece least token) (λ n. numbers_from (done ++ n ∷ []) (n + 1) tokens)

-- States.

-- the same at an atom of the state that is begun, or at its end
abbrev pub states_next : StatePiece → List (List ℕ) → List ℕ
    → (List (List ℕ) → List ℕ → ℕ → Option (List (List ℕ))) → Option (List (List ℕ))
states_next (Q.Atom n) all state go = go all (state ++ n ∷ []) (n + 1)
states_next Q.End all state go = go (all ++ state ∷ []) [] 0
states_next Q.Other all state go = None

-- the states so far, if none is begun
abbrev pub whole_states : List (List ℕ) → List ℕ → Option (List (List ℕ))
whole_states all [] = Some all
whole_states all (n ∷ state) = None

-- the states so far, the one that is begun, and those of the tokens
abbrev pub states_from : List (List ℕ) → List ℕ → ℕ → List Token → Option (List (List ℕ))
states_from all state least [] = whole_states all state
states_from all state least (token ∷ tokens) =
    states_next (state_piece least token) all state (λ a s l. states_from a s l tokens)

-- Clauses.

-- the same at a literal of the clause that is begun, or at its end
abbrev pub clauses_next : ClausePiece → List (List Literal) → List Literal
    → (List (List Literal) → List Literal → Option (List (List Literal)))
    → Option (List (List Literal))
clauses_next (P.Literal literal) all clause go = go all (clause ++ literal ∷ [])
clauses_next P.End all clause go = go (all ++ clause ∷ []) []
clauses_next P.Other all clause go = None

-- the clauses so far, if none is begun
abbrev pub whole_clauses : List (List Literal) → List Literal → Option (List (List Literal))
whole_clauses all [] = Some all
whole_clauses all (literal ∷ clause) = None

-- the clauses so far, the one that is begun, and those of the tokens
abbrev pub clauses_from : List (List Literal) → List Literal → List Token
    → Option (List (List Literal))
clauses_from all clause [] = whole_clauses all clause
clauses_from all clause (token ∷ tokens) =
    clauses_next (clause_piece token) all clause (λ a c. clauses_from a c tokens)
