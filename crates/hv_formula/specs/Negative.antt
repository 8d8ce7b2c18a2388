-- Where negative literals stand.
use Rattle.std.specs.Prelude.{◌<◌, ℕ, false, List, [], length, slice_index_or}
use Rattle.std.specs.List.{Contains}
use Rattle.hv_sets.specs.declared.literal.Literal.{Literal}

-- in the clause of this number the atom occurs negatively
pub record StandsNegatively (clauses : List (List Literal)) (atom number : ℕ) : Type 0 where
  pub among : number < length clauses
  pub has : Contains (slice_index_or clauses number []) (record { atom = atom; positive = false })
