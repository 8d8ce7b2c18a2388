-- What a token is in a list of states or of clauses.
use Rattle.std.specs.Prelude.{◌-◌, ◌^◌, ◌&&◌, ◌==◌, ℕ, true, false, cond, nat_le, nat_lt}
use Rattle.hv_proof_text.specs.declared.lists.ClausePiece.{ClausePiece}
use Rattle.hv_proof_text.specs.declared.lists.ClausePiece.TheVariants as P
use Rattle.hv_proof_text.specs.declared.lists.StatePiece.{StatePiece}
use Rattle.hv_proof_text.specs.declared.lists.StatePiece.TheVariants as Q
use Rattle.hv_proof_text.specs.declared.token.Token.{Token}
use Rattle.hv_proof_text.specs.declared.token.Token.TheVariants as T

-- in a state whose next atom is at least this one: a short decimal that isn't less, or the end
abbrev pub state_piece : ℕ → Token → StatePiece
state_piece least (T.Number n) = cond (nat_le least n && nat_lt n (10 ^ 9)) (Q.Atom n) Q.Other
state_piece least T.End = Q.End
state_piece least _ = Q.Other

-- in a clause: the decimal 0 is the end, another short one a literal
abbrev pub clause_piece : Token → ClausePiece
clause_piece (T.Number n) =
    cond (n == 0) P.End (cond (nat_lt n (10 ^ 9))
    (P.Literal (record { atom = n - 1; positive = true })) P.Other)
clause_piece (T.Minus n) =
    cond (n == 0) P.Other (cond (nat_lt n (10 ^ 9))
    (P.Literal (record { atom = n - 1; positive = false })) P.Other)
clause_piece _ = P.Other
