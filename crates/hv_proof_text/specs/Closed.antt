-- The text of a closed proof.
use Rattle.std.specs.Prelude.{List, [], ◌∷◌, ◌++◌, ℕ}
use Rattle.hv_lines.specs.Spelling.{proof_text}
use Rattle.hv_lines.specs.Versions.{first_mark, last_mark}
use Rattle.hv_lines.specs.declared.line.Line.{Line}

-- the text of the closed proof that has these lines: its first mark, the spelling of each line and
-- its last mark, each with its LF
abbrev pub closed_text : List Line → List ℕ
closed_text lines = first_mark ++ 10 ∷ (proof_text lines ++ (last_mark ++ 10 ∷ []))
