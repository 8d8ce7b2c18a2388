-- What a proof is judged by.
use Rattle.std.specs.Prelude.{ℕ}
use Rattle.hv_task.specs.Strips.{Strips}
use Rattle.hv_bdd.specs.Nodes.{NodeList}

-- a task, the nodes of a node file, and what a query of a basic statement may cost
pub record Setting : Type 0 where
  pub task : Strips
  pub nodes : NodeList
  pub budget : ℕ

-- no budget is greater
abbrev pub most_budget : ℕ
most_budget = 16777216

-- the setting of this task, these nodes and this budget
abbrev pub setting_of : Strips → NodeList → ℕ → Setting
setting_of task nodes budget = record { task = task; nodes = nodes; budget = budget }
