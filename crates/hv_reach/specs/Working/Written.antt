-- Working definitions beside those of `Written`: for private contracts and proofs.
use Rattle.std.specs.Prelude.{◌≡◌, ◌≤◌, true, List, length}
use Rattle.std.specs.List.{All}
use Rattle.hv_task.specs.Strips.{Strips, atoms, start_state}
use Rattle.hv_sets.specs.Truth.{in_clauses}
use Rattle.hv_sets.specs.declared.literal.Literal.{Literal}
use Rattle.hv_lines.specs.Drafts.{default_budget}
use Rattle.hv_lines.specs.Working.DeadLines.{AreDeadEnd}
use Rattle.hv_reach.specs.Written.{IsDenial}

-- the formula is one of which a block is good: no action leads out of its states, and none is a
-- goal state
pub record IsDeadEnd (task : Strips) (clauses : List (List Literal)) : Type 0 where
  pub denials : All (IsDenial (atoms task)) clauses
  pub few : length clauses ≤ default_budget
  pub ends : AreDeadEnd task true clauses

-- the goal isn't reached by the formula: the block is good, and the initial state is in the formula
pub record Separates (task : Strips) (clauses : List (List Literal)) : Type 0 where
  pub dead : IsDeadEnd task clauses
  pub starts : in_clauses clauses (start_state task) ≡ true
