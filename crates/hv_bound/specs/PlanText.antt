-- Plan files in plain words: which lines say which steps, and what the first fault is.
use Rattle.std.specs.Prelude.{◌≡◌, ℕ, ◌+◌, ◌++◌, ◌⊎◌, List, [], ◌∷◌, Some, None, length}
use Rattle.hv_bytes.specs.Decimals.{IsShortDecimal}
use Rattle.hv_bytes.specs.Pieces.{PieceBytes, as_pieces}
use Rattle.hv_grammar.specs.Parsers.{long, parsed, refused}
use Rattle.hv_bound.specs.PlanFile.{plan_file}

-- the line is skipped: it is empty or begins with `#`, byte 35
abbrev pub SaysNoStep : List ℕ → Type 0
SaysNoStep line = (line ≡ []) ⊎ ((rest : List ℕ) × (line ≡ 35 ∷ rest))

-- these lines say these steps: each of them is skipped, or spells the next step
abbrev pub ArePlanTextOf : List (List ℕ) → List ℕ → Type 0
ArePlanTextOf [] steps = steps ≡ []
ArePlanTextOf (line ∷ lines) steps =
    (SaysNoStep line × ArePlanTextOf lines steps)
    ⊎ ((number : ℕ) × (rest : List ℕ) × IsShortDecimal line number × (steps ≡ number ∷ rest)
    × ArePlanTextOf lines rest)

-- the line is neither skipped nor does it spell a step
abbrev pub IsNoPlanLine : List ℕ → Type 0
IsNoPlanLine line = (SaysNoStep line → ⊥) × ((number : ℕ) → IsShortDecimal line number → ⊥)

-- lines that say steps, and no more, give these steps
abbrev pub GivesSteps : Type 0
GivesSteps =
    (lines : List (List ℕ)) (steps : List ℕ) → ArePlanTextOf lines steps
    → plan_file 0 (as_pieces lines) ≡ parsed steps (length lines) []

-- the first line that is neither skipped nor spells a step is the one that is refused
abbrev pub NamesPlace : Type 0
NamesPlace =
    (before : List (List ℕ)) (steps : List ℕ) (line : List ℕ) (rest : List PieceBytes)
    → ArePlanTextOf before steps → IsNoPlanLine line
    → plan_file 0 (as_pieces before ++ Some line ∷ rest) ≡ refused (length before + 1) tt

-- a long line is the one that exceeds the limit, where each line before it is skipped or spells a
-- step
abbrev pub NamesLimit : Type 0
NamesLimit =
    (before : List (List ℕ)) (steps : List ℕ) (rest : List PieceBytes) → ArePlanTextOf before steps
    → plan_file 0 (as_pieces before ++ None ∷ rest) ≡ long (length before + 1)

-- a file is of one of these three kinds
abbrev pub IsOneOfThree : List PieceBytes → Type 0
IsOneOfThree pieces =
    ((lines : List (List ℕ)) × (steps : List ℕ) × ArePlanTextOf lines steps
    × (pieces ≡ as_pieces lines))
    ⊎ (((before : List (List ℕ)) × (steps : List ℕ) × (line : List ℕ) × (rest : List PieceBytes)
    × ArePlanTextOf before steps × IsNoPlanLine line × (pieces ≡ as_pieces before ++ Some line ∷
    rest))
    ⊎ ((before : List (List ℕ)) × (steps : List ℕ) × (rest : List PieceBytes) × ArePlanTextOf before
    steps
    × (pieces ≡ as_pieces before ++ None ∷ rest)))
