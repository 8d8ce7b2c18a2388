-- What reading a line answers.
use Rattle.std.specs.Prelude.{ℕ, List, Option, Some, None, Result, Ok, Err}
use Rattle.hv_lines.specs.Spelling.{IsSkipped, Spells}
use Rattle.hv_lines.specs.declared.line.Line.{Line}
use Rattle.hv_proof_text.specs.declared.read.LineError.{LineError}
use Rattle.hv_proof_text.specs.declared.read.LineError.TheVariants as F

-- the line that the bytes spell; nothing where they are skipped; `Grammar` where they aren't
-- skipped and spell no line
abbrev pub IsRead : Result (Option Line) LineError → List ℕ → Type 0
IsRead (Ok (Some line)) bytes = (IsSkipped bytes → ⊥) × Spells line bytes
IsRead (Ok None) bytes = IsSkipped bytes
IsRead (Err F.Grammar) bytes = (IsSkipped bytes → ⊥) × ((line : Line) → Spells line bytes → ⊥)
IsRead (Err F.Memory) bytes = Unit {0}
