-- Where negative literals stand.
use Rattle.std.proofs.Common.{ℕ, false, List}
use Rattle.hv_sets.specs.declared.literal.Literal.{Literal}
use Rattle.hv_indexes.specs.Rows.{IsRow}
use Rattle.hv_indexes.specs.Signed.{StandsAs}
use Rattle.hv_formula.specs.Negative.{StandsNegatively}

-- the row of a negative literal
pub negative_row : (clauses : List (List Literal)) (atom : ℕ) (places : List ℕ)
    → IsRow (StandsAs false clauses) atom places → IsRow (StandsNegatively clauses) atom places
negative_row clauses atom places row = record {
  rises = row.rises;
  has = λ number. (
    λ there. let stands = (row.has number).0 there in
        record { among = stands.among; has = stands.has },
    λ stands. (row.has number).1 (record { among = stands.among; has = stands.has }),
  );
}
