-- Working definitions beside those of `Pruners`: for private contracts and proofs.
use Rattle.std.specs.Prelude.{◌≡◌, ◌<◌, [], ℕ, Bool, true, List, length, slice_index_or}
use Rattle.hv_task.specs.Strips.{Strips, IsState}
use Rattle.hv_sets.specs.Truth.{in_clauses}
use Rattle.hv_sets.specs.declared.literal.Literal.{Literal}
use Rattle.hv_lines.specs.Meaning.{SetOfStates}
use Rattle.hv_reach.specs.Working.NoteRows.{IsDiagonal}
use Rattle.hv_reach.specs.Working.Written.{IsDeadEnd}

-- there is one row for each table, with the atoms that are in a pair with themselves
pub record AreDiagonals (rows : List (List Bool)) (tables : List (List (List Bool))) : Type 0 where
  pub size : length rows ≡ length tables
  pub each : (k : ℕ) → k < length tables
      → IsDiagonal (slice_index_or rows k []) (slice_index_or tables k [])

-- the formula shows why this state is dead: it is one of which a block is good, it holds the state,
-- and it holds covered states alone
pub record ShowsWhyDead (task : Strips) (covered : SetOfStates) (state : List Bool)
    (clauses : List (List Literal)) : Type 0 where
  pub dead : IsDeadEnd task clauses
  pub holds : in_clauses clauses state ≡ true
  pub within : (other : List Bool) → IsState task other → in_clauses clauses other ≡ true
      → covered other
