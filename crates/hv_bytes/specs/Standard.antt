-- The standard limits of lines and files.
use Rattle.std.specs.Prelude.{ℕ, ◌^◌}
use Rattle.hv_bytes.specs.declared.cutting.Limits.{Limits}

-- the most bytes of a line without its LF
abbrev pub most_line_bytes : ℕ
most_line_bytes = 16777216

-- the most bytes of a file
abbrev pub most_file_bytes : ℕ
most_file_bytes = 2 ^ 40

-- both together
abbrev pub standard : Limits
standard = record { line = most_line_bytes; file = most_file_bytes }
