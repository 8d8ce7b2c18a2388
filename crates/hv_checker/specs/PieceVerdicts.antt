-- What is answered to one piece, after the lines accepted before it.
use Rattle.std.specs.Prelude.{◌≡◌, List, ◌∷◌, Some, None, true, false}
use Rattle.hv_lines.specs.Spelling.{Spells}
use Rattle.hv_lines.specs.Good.{IsGood}
use Rattle.hv_lines.specs.Judged.{LineText, IsPassedOver, IsReason}
use Rattle.hv_lines.specs.Setting.{Setting}
use Rattle.hv_lines.specs.Versions.{is_mark, judged_as}
use Rattle.hv_lines.specs.declared.line.Line.{Line}
use Rattle.hv_lines.specs.declared.part.Part.{Part}
use Rattle.hv_checker.specs.declared.piece.Fed.{Fed}
use Rattle.hv_checker.specs.declared.piece.Fed.TheVariants as F

-- the piece is the spelling of this line
abbrev pub IsSpelledBy : LineText → Line → Type 0
IsSpelledBy None line = ⊥
IsSpelledBy (Some bytes) line = Spells line bytes

-- What the answer to a piece, of a checker that goes on and has read so far, says of the accepted
-- lines before and after. `Marked` comes exactly for the first and the last line of a closed proof,
-- since the other answers say that the piece isn't such a line.
abbrev pub IsFeedAnswer : Setting → Part → List Line → List Line → LineText → Fed → Type 0
IsFeedAnswer setting part old new piece F.Marked = (is_mark part piece ≡ true) × (new ≡ old)
IsFeedAnswer setting part old new piece F.Skipped =
    (is_mark part piece ≡ false) × IsPassedOver piece × (new ≡ old)
IsFeedAnswer setting part old new piece F.Good =
    (line : Line) × (is_mark part piece ≡ false) × IsSpelledBy (judged_as part piece) line
    × IsGood setting old line × (new ≡ line ∷ old)
IsFeedAnswer setting part old new piece (F.Refused reason) =
    (is_mark part piece ≡ false) × IsReason setting old (judged_as part piece) reason
    × (new ≡ old)
IsFeedAnswer setting part old new piece F.Stopped = ⊥
