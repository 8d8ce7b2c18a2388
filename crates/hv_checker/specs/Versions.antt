-- What the pieces of a proof are judged, said for each of its two versions.
use Rattle.std.specs.Prelude.{◌≡◌, ◌≢◌, ◌+◌, ◌⊎◌, ℕ, List, Some, None, length, reverse}
use Rattle.std.specs.List.{All}
use Rattle.hv_lines.specs.Judged.{Accepts, IsPassedOver, IsRefused, Judgement, LineText}
use Rattle.hv_lines.specs.Judged as J
use Rattle.hv_lines.specs.Setting.{Setting}
use Rattle.hv_lines.specs.Versions.{last_mark}
use Rattle.hv_lines.specs.declared.line.Line.{Line}
use Rattle.hv_lines.specs.declared.part.Part.{Part}
use Rattle.hv_lines.specs.declared.part.Part.TheVariants as P
use Rattle.hv_lines.specs.declared.reason.Reason.{Reason}
use Rattle.hv_lines.specs.declared.reason.Reason.TheVariants as R
use Rattle.hv_checker.specs.declared.piece.Fed.{Fed}
use Rattle.hv_checker.specs.declared.piece.Fed.TheVariants as F

-- the version of a proof that is read so far
abbrev pub proof_version : Part → ℕ
proof_version P.AtStart = 1
proof_version P.Open = 1
proof_version P.BeforeEnd = 2
proof_version P.PastEnd = 2

-- none of these pieces is the line `end`
abbrev pub NoneEnds : List LineText → Type 0
NoneEnds pieces = All (λ piece. piece ≢ Some last_mark) pieces

-- why a piece behind the line `end` is refused, where it isn't skipped
abbrev pub reason_behind : LineText → Reason
reason_behind None = R.Long
reason_behind (Some bytes) = R.Grammar

-- What is answered to a piece behind the line `end`: an empty line or a comment is skipped, and any
-- other piece is refused.
abbrev pub IsFedBehind : LineText → Fed → Type 0
IsFedBehind piece F.Skipped = IsPassedOver piece
IsFedBehind piece F.Marked = ⊥
IsFedBehind piece F.Good = ⊥
IsFedBehind piece (F.Refused reason) = (IsPassedOver piece → ⊥) × (reason ≡ reason_behind piece)
IsFedBehind piece F.Stopped = ⊥

-- What is said where the piece after these is refused in any case, for this reason: that the first
-- of these that isn't good is refused, or else, where each is skipped or good, that piece.
abbrev pub JudgedUpTo : Setting → List LineText → Reason → Judgement → Type 0
JudgedUpTo setting pieces last J.Unsolvable = ⊥
JudgedUpTo setting pieces last (J.Refused place reason) =
    IsRefused setting pieces place reason
    ⊎ (((lines : List Line) × Accepts setting (reverse pieces) lines)
    × (place ≡ length pieces + 1) × (reason ≡ last))
JudgedUpTo setting pieces last J.NoConclusion = ⊥
