-- A walk over paths that keeps the literals of the last one.
use Rattle.std.specs.Prelude.{◌≡◌, ◌<◌, ◌≤◌, ◌+◌, ◌-◌, ℕ, List, length, take}
use Rattle.hv_sets.specs.Cubes.{SpeakBelow}
use Rattle.hv_sets.specs.declared.cursor.Cursor.{Cursor}
use Rattle.hv_sets.specs.declared.literal.Literal.{Literal}
use Rattle.hv_bdd.specs.Nodes.{IsNode, NodeList}
use Rattle.hv_bdd.specs.Paths.{StandsForWalk}
use Rattle.hv_bdd.specs.Working.Paths.{literals_of}

-- the new stack has a node, and all before its last node are the first ones of the old stack
pub record TurnsTo (old new : List ℕ) : Type 0 where
  pub some : 0 < length new
  pub upto : length new ≤ length old + 1
  pub same : take (length new - 1) new ≡ take (length new - 1) old

-- the cursor denotes a walk over the paths from a node to an end, and these are the literals of
-- its path
pub record StandsWith (list : NodeList) (node end : ℕ) (cursor : Cursor)
    (literals : List Literal) : Type 0 where
  pub from : IsNode list node
  pub to : end < 2
  pub walk : StandsForWalk list end cursor
  pub path : literals ≡ literals_of list cursor.path.items
  pub below : SpeakBelow list.atoms literals
