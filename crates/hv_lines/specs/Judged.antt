-- What a checker says of a whole proof.
use Rattle.std.specs.Prelude.{◌≡◌, ◌+◌, ◌⊎◌, ℕ, List, [], ◌∷◌, ◌++◌, Some, None, length, reverse}
use Rattle.hv_bytes.specs.Pieces.{PieceBytes, pieces_of}
use Rattle.hv_bytes.specs.declared.cutting.Limits.{Limits}
use Rattle.hv_lines.specs.Spelling.{Spells, IsSkipped}
use Rattle.hv_lines.specs.Rules.{Says}
use Rattle.hv_lines.specs.Good.{IsGood, IsRefutedBy, LinePasses}
use Rattle.hv_lines.specs.Order.{Test, IsReasonBy, without_state}
use Rattle.hv_lines.specs.Order as O
use Rattle.hv_lines.specs.Setting.{Setting}
use Rattle.hv_lines.specs.Versions.{judged_whole}
use Rattle.hv_lines.specs.declared.line.Line.{Line}
use Rattle.hv_lines.specs.declared.line.Statement.TheVariants as T
use Rattle.hv_lines.specs.declared.reason.Clash.{Clash}
use Rattle.hv_lines.specs.declared.reason.Reason.{Reason}

-- a piece of a proof: the bytes of a line without its LF, or none where the line is too long
abbrev pub LineText : Type 0
LineText = PieceBytes

-- a piece is skipped: it is an empty line or a comment
abbrev pub IsPassedOver : LineText → Type 0
IsPassedOver None = ⊥
IsPassedOver (Some bytes) = IsSkipped bytes

-- the lines that are accepted of these pieces: each piece is skipped, or spells a line that is good
-- after those before it. Pieces and lines have the newest first.
abbrev pub Accepts : Setting → List LineText → List Line → Type 0
Accepts setting [] lines = lines ≡ []
Accepts setting (None ∷ older) lines = ⊥
Accepts setting (Some bytes ∷ older) lines =
    (IsSkipped bytes × Accepts setting older lines)
    ⊎ ((line : Line) × (before : List Line) × (lines ≡ line ∷ before) × Spells line bytes
    × IsGood setting before line × Accepts setting older before)

-- The piece passes the test, after these lines. One that is too long passes no test. Each other one
-- passes the first test, and a later one where it is skipped or spells a line that passes it.
abbrev pub Passes : Setting → List Line → LineText → Test → Type 0
Passes setting lines None test = ⊥
Passes setting lines (Some bytes) O.Length = Unit {0}
Passes setting lines (Some bytes) test =
    IsSkipped bytes ⊎ ((line : Line) × Spells line bytes × LinePasses setting lines line test)

-- the counterexample is one to the basic statement of the line that the piece spells
abbrev pub IsShownBy : Setting → List Line → LineText → Clash → Type 0
IsShownBy setting lines None clash = ⊥
IsShownBy setting lines (Some bytes) clash =
    (line : Line) × Spells line bytes × IsRefutedBy setting lines line clash

-- the reason why this piece is refused after these lines
abbrev pub IsReason : Setting → List Line → LineText → Reason → Type 0
IsReason setting lines piece reason =
    IsReasonBy (Passes setting lines piece) (IsShownBy setting lines piece) reason

-- some line says that the task is unsolvable
abbrev pub Concludes : List Line → Type 0
Concludes lines = (premise : ℕ) × Says lines premise T.Unsolvable

-- the first piece that isn't good, counted from 1 with the skipped ones, and why
pub record IsRefused
    (setting : Setting) (pieces : List LineText) (place : ℕ) (reason : Reason) : Type 0
  where
    pub front : List LineText
    pub bad : LineText
    pub rest : List LineText
    pub cut : pieces ≡ front ++ bad ∷ rest
    pub counted : place ≡ length front + 1
    pub lines : List Line
    pub accepted : Accepts setting (reverse front) lines
    pub reason_is : IsReason setting lines bad reason

-- every piece is skipped or good, and some line says that the task is unsolvable
pub record IsJudgedUnsolvable (setting : Setting) (pieces : List LineText) : Type 0 where
  pub lines : List Line
  pub accepted : Accepts setting (reverse pieces) lines
  pub concludes : Concludes lines

-- every piece is skipped or good, and no line says that the task is unsolvable
pub record IsInconclusive (setting : Setting) (pieces : List LineText) : Type 0 where
  pub lines : List Line
  pub accepted : Accepts setting (reverse pieces) lines
  pub silent : Concludes lines → ⊥

-- what is said of a whole proof
pub data Judgement : Type 0 where
  Unsolvable : Judgement
  -- the place of the first piece that isn't good, and why
  Refused : ℕ → Reason → Judgement
  NoConclusion : Judgement

-- what is said of pieces that are judged in order, as those of an open proof are
abbrev pub JudgedInOrder : Setting → List LineText → Judgement → Type 0
JudgedInOrder setting pieces Unsolvable = IsJudgedUnsolvable setting pieces
JudgedInOrder setting pieces (Refused place reason) = IsRefused setting pieces place reason
JudgedInOrder setting pieces NoConclusion = IsInconclusive setting pieces

-- what is said of the pieces of a proof, open or closed
abbrev pub Judged : Setting → List LineText → Judgement → Type 0
Judged setting pieces judgement = JudgedInOrder setting (judged_whole pieces) judgement

-- what is said of the bytes of a proof, cut into lines; a line that is long by the limits is the
-- last piece, and is refused
abbrev pub JudgedBytes : Setting → Limits → List ℕ → Judgement → Type 0
JudgedBytes setting limits bytes judgement = Judged setting (pieces_of limits bytes) judgement

-- what of a judgement is determined: all but the state of a counterexample
abbrev pub outline_of : Judgement → Judgement
outline_of Unsolvable = Unsolvable
outline_of (Refused place reason) = Refused place (without_state reason)
outline_of NoConclusion = NoConclusion
