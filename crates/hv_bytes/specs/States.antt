-- What contracts see of the shelves, sinks and line cutters of this crate.
use Rattle.std.specs.Prelude.{ℕ, ◌+◌, Bool, true, false, List, [], Option, Some, if◌then◌else◌}
use Rattle.std.specs.Io.KnownBytes.{prepend_known}
use Rattle.hv_bytes.specs.Files.{File}
use Rattle.hv_bytes.specs.declared.cutting.Limits.{Limits}

-- a shelf in memory
pub record ShelfState : Type 0 where
  -- the files that were added, newest first: the newest one of a name counts
  pub files : List File
  -- the bytes left in the open file
  pub left : List ℕ
  -- the most bytes that a read gives
  pub step : ℕ
  -- the numbers of the calls that fail
  pub failing : List ℕ
  -- how many calls of `open` and `read` there were
  pub calls : ℕ
  pub faults : ℕ

-- a sink in memory
pub record SinkState : Type 0 where
  -- the bytes that it took
  pub taken : List ℕ
  -- the most bytes that a write takes
  pub step : ℕ
  -- the most bytes that it takes in all
  pub room : ℕ
  -- the numbers of the writes that fail
  pub failing : List ℕ
  -- how many writes there were
  pub calls : ℕ
  pub faults : ℕ

-- a shelf in memory that never fails
pub record SureState : Type 0 where
  -- the files that were added, newest first: the newest one of a name counts
  pub files : List File
  -- the bytes left in the open file
  pub left : List ℕ

-- a cutter of lines
pub record LinesState : Type 0 where
  -- the bytes that it holds beside the present line: read from the shelf, and not yet given
  pub held : List ℕ
  -- how many bytes the lines given so far have, with their LFs
  pub earlier : ℕ
  -- how many lines it gave
  pub number : ℕ
  -- the line given last, without its LF
  pub line : List ℕ
  -- whether the input has ended: nothing more is read then
  pub ended : Bool
  -- whether it may be asked for a further line
  pub live : Bool
  pub limits : Limits

-- a cutter that gave no line yet
abbrev pub no_lines : Limits → LinesState
no_lines limits = record {
  held = [];
  earlier = 0;
  number = 0;
  line = [];
  ended = false;
  live = true;
  limits = limits;
}

-- the bytes still to come, where what the source has left is known: the held ones, then those on
-- the shelf; none once the input has ended
abbrev pub coming_of : LinesState → Option (List ℕ) → Option (List ℕ)
coming_of state left = if state.ended then Some [] else prepend_known state.held left

-- how many bytes a line of this length has with its LF, which the last line of an input that ended
-- may lack
abbrev pub size_of : ℕ → Bool → ℕ
size_of length_of_line ended = if ended then length_of_line else length_of_line + 1
