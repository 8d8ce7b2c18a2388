-- Working definitions beside those of `States`: for private contracts and proofs.
use Rattle.std.specs.Prelude.{◌≡◌, ℕ, ◌+◌, ◌^◌, ◌≤◌, Bool, true, List, [], if◌then◌else◌}
use Rattle.hv_bytes.specs.declared.cutting.Limits.{Limits}

-- the limits are not too great for 64 bits, the counts are within them, and no byte is held behind
-- the end
pub record IsCounted
    (limits : Limits) (earlier number : ℕ) (held : List ℕ) (ended : Bool) : Type 0
  where
    pub line_bound : limits.line ≤ 2 ^ 62
    pub file_bound : limits.file ≤ 2 ^ 62
    pub earlier_bound : earlier ≤ limits.file + 1
    pub number_bound : number ≤ earlier
    pub lines_bound : number ≤ limits.file
    pub all_given : ended ≡ true → held ≡ []

-- how many bytes a block has space for
abbrev pub block_size : ℕ
block_size = 65536

-- the bytes of a block
pub record BlockState : Type 0 where
  -- those that are lent as a line
  pub lent : List ℕ
  -- those that were read and not yet used
  pub held : List ℕ

-- a block that nothing was read into
abbrev pub no_bytes : BlockState
no_bytes = record { lent = []; held = [] }

-- the held bytes, and the line that was cut from them last
pub record BufferState : Type 0 where
  pub held : List ℕ
  pub line : List ℕ

-- before the first line
abbrev pub no_line : BufferState
no_line = record { held = []; line = [] }

-- the line that was cut last: the bytes that a block lends, or those of a list of its own
abbrev pub present_line : Bool → List ℕ → List ℕ → List ℕ
present_line is_lent lent line = if is_lent then lent else line
