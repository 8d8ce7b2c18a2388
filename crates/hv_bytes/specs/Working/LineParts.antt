-- One step of cutting a line out of held bytes: the line grows by a part of them.
use Rattle.std.specs.Prelude.{◌≡◌, ◌≢◌, ℕ, ◌+◌, ◌≤◌, List, [], ◌++◌, length, take, drop}
use Rattle.hv_bytes.specs.FirstLine.{FitsLimits, IsLong}
use Rattle.hv_bytes.specs.LineCuts.{IsClean}
use Rattle.hv_bytes.specs.Working.LineCuts.{IsFirstLf}

-- the line grew by what is held before the first LF, and that LF is gone too
abbrev pub EndsLine : List ℕ → List ℕ → List ℕ → List ℕ → Type 0
EndsLine held held_now line line_now =
    (at : ℕ) × IsFirstLf held at × (held_now ≡ drop (at + 1) held)
    × (line_now ≡ line ++ take at held)

-- no LF is held, and the line grew by all that is
abbrev pub LengthensLine : List ℕ → List ℕ → List ℕ → List ℕ → Type 0
LengthensLine held held_now line line_now = IsClean held × (held_now ≡ [])
    × (line_now ≡ line ++ held)

-- a line of so many bytes, grown by a part of what is held before the first LF, is long
abbrev pub IsLongPart : List ℕ → ℕ → ℕ → ℕ → ℕ → Type 0
IsLongPart held line_limit file_limit earlier so_far =
    (count : ℕ) × (count ≤ length held) × IsClean (take count held)
    × IsLong line_limit file_limit earlier (so_far + count)

-- a line that has these bytes so far is within the limits; an empty one may yet turn out to be none
abbrev pub FitsSoFar : ℕ → ℕ → ℕ → List ℕ → Type 0
FitsSoFar line_limit file_limit earlier line =
    line ≢ [] → FitsLimits line_limit file_limit earlier (length line)

-- the bytes begin with this prefix
abbrev pub BeginsWith : List ℕ → List ℕ → Type 0
BeginsWith front bytes = take (length front) bytes ≡ front
