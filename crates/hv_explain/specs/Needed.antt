-- Which `k` lines the conclusion rests on.
use Rattle.std.specs.Prelude.{◌≡◌, ◌<◌, ℕ, Bool, true, List, Some}
use Rattle.std.specs.List.{All}
use Rattle.hv_lines.specs.Numbering.{premises_at}
use Rattle.hv_lines.specs.Rules.{Says}
use Rattle.hv_lines.specs.declared.line.Line.{Line}
use Rattle.hv_lines.specs.declared.line.Statement.TheVariants as T

-- the first line that says that the task is unsolvable
pub record IsConclusion (lines : List Line) (id : ℕ) : Type 0 where
  pub says : Says lines id T.Unsolvable
  pub first : (earlier : ℕ) → earlier < id → Says lines earlier T.Unsolvable → ⊥

-- a set of `k` lines that has the conclusion, and with each of its lines that line's premises
pub record HasItsPremises (lines : List Line) (set : ℕ → Bool) : Type 0 where
  pub concludes : (id : ℕ) → IsConclusion lines id → set id ≡ true
  pub keeps : (id : ℕ) (premises : List ℕ) → premises_at lines id ≡ Some premises
      → set id ≡ true → All (λ premise. set premise ≡ true) premises

-- The line is needed: the conclusion is, and so is each premise of a needed line, and no other
-- line. So it is in each set that has the conclusion, and with each of its lines that line's
-- premises.
abbrev pub IsNeeded : List Line → ℕ → Type 0
IsNeeded lines id = (set : ℕ → Bool) → HasItsPremises lines set → set id ≡ true
