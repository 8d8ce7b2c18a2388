-- What pieces are judged with.
use Rattle.std.specs.Prelude.{List}
use Rattle.hv_lines.specs.Good.{AreGood}
use Rattle.hv_lines.specs.Setting.{Setting}
use Rattle.hv_lines.specs.Working.Setting.{IsSetting}
use Rattle.hv_lines.specs.declared.line.Line.{Line}
use Rattle.hv_lines.specs.declared.line.Line.TheVariants as L
use Rattle.hv_basic.specs.Sharing.{IsShared}
use Rattle.hv_basic.specs.Stores.{IsStoreOf}
use Rattle.hv_basic.specs.declared.shared.Shared.{Shared}
use Rattle.hv_basic.specs.declared.store.Store.{Store}

-- what pieces are judged by, and the lines that were accepted, the newest first
pub record JudgeState : Type 0 where
  pub setting : Setting
  pub lines : List Line

-- it can be judged by, its lines are good, and what is kept of them is theirs
pub record IsJudge (judging : JudgeState) (store : Store) (shared : Shared) : Type 0 where
  pub setting : IsSetting judging.setting
  pub good : AreGood judging.setting judging.lines
  pub stored : IsStoreOf judging.setting.task judging.lines store
  pub kept : IsShared judging.lines shared

-- the line is no `e` line
abbrev pub SaysNoSet : Line → Type 0
SaysNoSet (L.Acts id acts) = Unit {0}
SaysNoSet (L.Expr id expr) = ⊥
SaysNoSet (L.Known id statement word premises) = Unit {0}
