-- Working definitions beside those of `Setting`: for private contracts and proofs.
use Rattle.std.specs.Prelude.{◌≡◌, ◌<◌, ◌≤◌}
use Rattle.hv_task.specs.Strips.{atoms}
use Rattle.hv_lines.specs.Setting.{Setting, most_budget}

-- what a proof can be judged by: the nodes are over the atoms of the task, and the budget is from 1
-- to 16,777,216
pub record IsSetting (setting : Setting) : Type 0 where
  pub over : setting.nodes.atoms ≡ atoms setting.task
  pub some : 0 < setting.budget
  pub small : setting.budget ≤ most_budget
