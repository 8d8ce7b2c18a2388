-- A text cut into lines at LF, byte 10.
use Rattle.std.specs.Prelude.{◌≢◌, ℕ, ◌==◌, List, [], ◌∷◌, All, if◌then◌else◌}
use Rattle.std.specs.List.{onto_first}

-- no byte is an LF
abbrev pub IsClean : List ℕ → Type 0
IsClean bytes = All (λ b. b ≢ 10) bytes

-- the lines of a text, without their LFs: the last LF may be missing, and an LF at the end begins
-- no further line
abbrev pub lines_of : List ℕ → List (List ℕ)
lines_of [] = []
lines_of (b ∷ bytes) = if b == 10 then [] ∷ lines_of bytes else onto_first b (lines_of bytes)
