-- What was reached for each note: a row of atoms, kept by note and by atom. Rows are in blocks of
-- 512, and in a block there is for each atom a column, whose flag at a place says whether the row
-- at this place of the block has the atom.
use Rattle.std.specs.Prelude.{◌≡◌, ◌<◌, ◌≤◌, ◌+◌, ◌-◌, ◌*◌, ◌↔◌, min, ℕ, Bool, true, List, []}
use Rattle.std.specs.Prelude.{length, Option, Some, MatchOption, slice_get, slice_index_or}
use Rattle.std.specs.Prelude.{vec_capacity, vec_len}
use Rattle.std.specs.List.{All}
use Rattle.std.specs.Global.{Vec}
use Rattle.hv_task.specs.State.{has_atom}
use Rattle.hv_reach.specs.Reached.{has_pair}

-- the first place from this one on, below a bound, where this holds, if there is one
abbrev pub IsFirstPlace : (ℕ → Type 0) → ℕ → ℕ → Option ℕ → Type 0
IsFirstPlace Holds bound from found =
    MatchOption found
    ((k : ℕ) → from ≤ k → k < bound → Holds k → ⊥)
    (λ k. (from ≤ k) × (k < bound) × Holds k × ((j : ℕ) → from ≤ j → j < k → Holds j → ⊥))

-- the row at this place has each of these atoms
abbrev pub RowHas : List (List Bool) → List ℕ → ℕ → Type 0
RowHas rows atoms k = All (λ p. has_pair rows k p ≡ true) atoms

-- the columns of each of these atoms have this place
abbrev pub ColumnsHave : List (List Bool) → List ℕ → ℕ → Type 0
ColumnsHave columns atoms j = All (λ p. has_pair columns p j ≡ true) atoms

-- each of the rows is over so many atoms
abbrev pub AreRowsOver : ℕ → List (List Bool) → Type 0
AreRowsOver atoms rows = (k : ℕ) → k < length rows → length (slice_index_or rows k []) ≡ atoms

-- each of the columns is over so many places
abbrev pub AreColumns : ℕ → List (List Bool) → Type 0
AreColumns places columns =
    (p : ℕ) → p < length columns → length (slice_index_or columns p []) ≡ places

-- the columns are those of the block of rows that begins at this place
pub record AreColumnsOf (atoms start : ℕ) (rows columns : List (List Bool)) : Type 0 where
  pub wide : length columns ≡ atoms
  pub size : AreColumns 512 columns
  pub flags : (p j : ℕ) → p < length columns → j < 512
      → has_pair columns p j ≡ has_pair rows (start + j) p

-- each block has its columns
abbrev pub AreBlocksOf : ℕ → List (List Bool) → List (Vec (List Bool)) → Type 0
AreBlocksOf atoms rows blocks =
    (b : ℕ) (block : Vec (List Bool)) → slice_get blocks b ≡ Some block
    → AreColumnsOf atoms (512 * b) rows block.items

-- the rows, over so many atoms, are in these blocks, of which one at most has none
pub record AreRowsIn (atoms : ℕ) (blocks : List (Vec (List Bool))) (rows : List (List Bool))
    : Type 0 where
  pub over : AreRowsOver atoms rows
  pub each : AreBlocksOf atoms rows blocks
  pub upto : length rows ≤ 512 * length blocks
  pub tight : 512 * length blocks ≤ length rows + 512

-- what is kept, as contracts see it: the rows, of how many atoms there are columns, and how many
-- rows can be put without further memory
pub record KeptRows : Type 0 where
  pub rows : List (List Bool)
  pub atoms : ℕ
  pub room : ℕ

-- how many rows these two have space for
abbrev pub room_in : Vec (List Bool) → List (Vec (List Bool)) → ℕ
room_in rows blocks =
    min (vec_capacity rows - vec_len rows) (512 * length blocks - length rows.items)

-- the row has the atoms that are in a pair with themselves
abbrev pub IsDiagonal : List Bool → List (List Bool) → Type 0
IsDiagonal row table =
    (length row ≡ length table)
    × ((p : ℕ) → (has_atom row p ≡ true) ↔ (has_pair table p p ≡ true))
