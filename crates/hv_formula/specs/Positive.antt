-- The clauses that are tried for each of the first listed states.
use Rattle.std.specs.Prelude.{◌≡◌, ◌<◌, ◌⊎◌, ℕ, false, List, length, slice_index_or}
use Rattle.std.specs.List.{Contains}
use Rattle.hv_sets.specs.declared.literal.Literal.{Literal}
use Rattle.hv_indexes.specs.Places.{clause_at}

-- each of the first so many clauses is among these, or has a negative literal
pub record ArePositive (clauses : List (List Literal)) (upto : ℕ) (places : List ℕ) : Type 0 where
  pub inside : (k : ℕ) → k < length places → slice_index_or places k 0 < length clauses
  pub whole : (c : ℕ) → c < upto → Contains places c
      ⊎ ((l : Literal) × Contains (clause_at clauses c) l × (l.positive ≡ false))
