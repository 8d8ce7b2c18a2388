-- How far a replay has come.
use Rattle.std.specs.Prelude.{List}
use Rattle.hv_task.specs.Strips.{Strips}
use Rattle.hv_lines.specs.Drafts.{IsGoodTable}
use Rattle.hv_lines.specs.Judged.{Concludes}
use Rattle.hv_lines.specs.declared.line.Line.{Line}
use Rattle.hv_replay.specs.Logs.{SearchLog}
use Rattle.hv_replay.specs.Replayed.{IsReplayed}

-- the lines are a good proof that replays the log
pub record IsProof (task : Strips) (log : SearchLog) (lines : List Line) : Type 0 where
  pub replayed : IsReplayed log lines
  pub good : IsGoodTable task lines
  pub concludes : Concludes lines
