-- A checker, and the pieces that it was fed.
use Rattle.std.specs.Prelude.{◌≡◌, ◌≢◌, ◌+◌, ℕ, List, [], ◌∷◌, ◌++◌, Option, Some, None, length}
use Rattle.std.specs.Prelude.{reverse}
use Rattle.hv_lines.specs.Judged.{LineText, Accepts, Concludes, IsReason, Judged}
use Rattle.hv_lines.specs.Judged as J
use Rattle.hv_lines.specs.Setting.{Setting}
use Rattle.hv_lines.specs.Versions.{judged_as, judged_so_far, part_of}
use Rattle.hv_lines.specs.declared.line.Line.{Line}
use Rattle.hv_lines.specs.declared.part.Part.{Part}
use Rattle.hv_lines.specs.declared.part.Part.TheVariants as P
use Rattle.hv_lines.specs.declared.reason.Reason.{Reason}
use Rattle.hv_lines.specs.declared.reason.Reason.TheVariants as R
use Rattle.hv_checker.specs.declared.stop.Stop.{Stop}
use Rattle.hv_checker.specs.declared.stop.Stop.TheVariants as S
use Rattle.hv_checker.specs.declared.piece.End.{End}
use Rattle.hv_checker.specs.declared.piece.End.TheVariants as E

-- what contracts see of a checker
pub record CheckerState : Type 0 where
  pub setting : Setting
  -- the accepted lines, the newest first
  pub lines : List Line
  -- how many pieces were fed, up to and including the first that was refused or ran out of memory
  pub fed : ℕ
  -- the version of the proof, and whether its line `end` was passed
  pub part : Part
  -- whether it goes on, and if not why
  pub stop : Stop

-- where a piece was refused, counted from 1, and why
pub record Refusal : Type 0 where
  pub place : ℕ
  pub reason : Reason

-- The refusal after so many pieces, by how far the proof is read and by whether the checker goes
-- on. A closed proof without its end is refused behind its last piece; this refusal isn't kept,
-- since more pieces may come.
abbrev pub refusal_at : ℕ → Part → Stop → Option Refusal
refusal_at fed part (S.Refused reason) = Some (record { place = fed; reason = reason })
refusal_at fed part S.Memory = None
refusal_at fed P.BeforeEnd S.Going = Some (record { place = fed + 1; reason = R.Grammar })
refusal_at fed part S.Going = None

-- The refusal of the pieces fed so far as a whole proof, where there is one. All that is said of a
-- checker after a refusal is said of this.
abbrev pub refusal_of : CheckerState → Option Refusal
refusal_of checker = refusal_at checker.fed checker.part checker.stop

-- The checker's lines, its count, how far it has read and the refusal that it keeps are those that
-- the pieces give, in the order in which they were fed: all were accepted, or the first that wasn't
-- is the refused one. It didn't run out of memory.
abbrev pub HasJudgedAt : CheckerState → Stop → List LineText → Type 0
HasJudgedAt checker S.Going pieces =
    (checker.fed ≡ length pieces) × (checker.part ≡ part_of pieces)
    × Accepts checker.setting (reverse (judged_so_far pieces)) checker.lines
HasJudgedAt checker (S.Refused reason) pieces =
    (front : List LineText) × (bad : LineText) × (rest : List LineText)
    × (pieces ≡ front ++ bad ∷ rest) × (checker.fed ≡ length front + 1)
    × (checker.part ≡ part_of (front ++ bad ∷ []))
    × Accepts checker.setting (reverse (judged_so_far front)) checker.lines
    × IsReason checker.setting checker.lines (judged_as (part_of front) bad) reason
HasJudgedAt checker S.Memory pieces = ⊥

-- the checker is as these pieces leave a new one
abbrev pub HasJudged : CheckerState → List LineText → Type 0
HasJudged checker pieces = HasJudgedAt checker checker.stop pieces

-- what the checker says of the pieces fed so far, by what it keeps
abbrev pub SaysAtEnd : CheckerState → End → Type 0
SaysAtEnd checker E.Unsolvable =
    (refusal_of checker ≡ None) × (checker.stop ≢ S.Memory) × Concludes checker.lines
SaysAtEnd checker (E.Refused place) =
    (reason : Reason) × (refusal_of checker ≡ Some (record { place = place; reason = reason }))
SaysAtEnd checker E.NoConclusion =
    (refusal_of checker ≡ None) × (checker.stop ≢ S.Memory) × (Concludes checker.lines → ⊥)
SaysAtEnd checker E.Memory = checker.stop ≡ S.Memory

-- what the end says of the pieces
abbrev pub SaysEnd : CheckerState → List LineText → End → Type 0
SaysEnd checker pieces E.Unsolvable = Judged checker.setting pieces J.Unsolvable
SaysEnd checker pieces (E.Refused place) =
    (reason : Reason) × (refusal_of checker ≡ Some (record { place = place; reason = reason }))
    × Judged checker.setting pieces (J.Refused place reason)
SaysEnd checker pieces E.NoConclusion = Judged checker.setting pieces J.NoConclusion
SaysEnd checker pieces E.Memory = ⊥
