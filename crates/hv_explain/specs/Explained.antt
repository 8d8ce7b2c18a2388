-- The text that tells which `k` lines are needed.
use Rattle.std.specs.Prelude.{◌≡◌, ◌↔◌, ℕ, Bool, true, false, List, [], ◌∷◌, ◌++◌, codes, reverse}
use Rattle.std.specs.List.{flat_map}
use Rattle.hv_lines.specs.Spelling.{spelling_of}
use Rattle.hv_lines.specs.declared.line.Line.{Line}
use Rattle.hv_lines.specs.declared.line.Line.TheVariants as L
use Rattle.hv_explain.specs.Needed.{IsNeeded}

-- the word for a line that is needed, and for one that isn't
abbrev pub need_word : Bool → List ℕ
need_word true = codes "needed"
need_word false = codes "spare"

-- what is said of a line, by the set of the needed ones: of a `k` line its spelling and the word,
-- parted by a space, with an LF; nothing of other lines
abbrev pub explained_line : (ℕ → Bool) → Line → List ℕ
explained_line needed (L.Acts id acts) = []
explained_line needed (L.Expr id expr) = []
explained_line needed (L.Known id statement word premises) =
    spelling_of (L.Known id statement word premises)
    ++ 32 ∷ (need_word (needed id) ++ 10 ∷ [])

-- the text on lines in the order in which they were written, by the set of the needed ones
abbrev pub explained_lines : (ℕ → Bool) → List Line → List ℕ
explained_lines needed lines = flat_map (explained_line needed) lines

-- The text tells of each `k` line whether it is needed, in the order in which the lines were
-- written. Of the lines the newest is the first.
pub record IsExplanation (lines : List Line) (text : List ℕ) : Type 0 where
  -- the set of the needed lines
  pub needed : ℕ → Bool
  pub exact : (id : ℕ) → (needed id ≡ true) ↔ IsNeeded lines id
  pub says : text ≡ explained_lines needed (reverse lines)
