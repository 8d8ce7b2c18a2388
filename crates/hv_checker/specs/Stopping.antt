-- Whether a checker goes on.
use Rattle.hv_checker.specs.declared.piece.Fed.{Fed}
use Rattle.hv_checker.specs.declared.piece.Fed.TheVariants as F
use Rattle.hv_checker.specs.declared.stop.Stop.{Stop}
use Rattle.hv_checker.specs.declared.stop.Stop.TheVariants as S

-- whether the checker goes on after this answer: as before, but for a refusal
abbrev pub stop_after : Stop → Fed → Stop
stop_after before F.Skipped = before
stop_after before F.Good = before
stop_after before F.Marked = before
stop_after before (F.Refused reason) = S.Refused reason
stop_after before F.Stopped = before
