-- Fronts: the nodes that are met after some literals, from the root of a diagram down.
use Rattle.std.specs.Prelude.{◌≡◌, ◌<◌, ◌≤◌, ◌+◌, ℕ, Bool, true, List, length}
use Rattle.std.specs.Prelude.{take, slice_index_or}
use Rattle.std.specs.Global.{Vec}
use Rattle.std.specs.List.{Contains}
use Rattle.hv_sets.specs.declared.literal.Literal.{Literal}
use Rattle.hv_sets.specs.Cubes.{SpeakBelow}
use Rattle.hv_sets.specs.Truth.{in_cube}
use Rattle.hv_paths.specs.Along.{IsBarren}
use Rattle.hv_bdd.specs.Exclusions.{AreExclusions}
use Rattle.hv_bdd.specs.Nodes.{IsNode, NodeList, in_node}
use Rattle.hv_bdd.specs.declared.level.Level.{Level}

-- the numbers in the list are below this one
abbrev pub AreBelowBound : ℕ → List ℕ → Type 0
AreBelowBound bound nodes = (k : ℕ) → k < length nodes → slice_index_or nodes k 0 < bound

-- each state of the cube that is in the node, or outside it, is so in one of those of the front
abbrev pub HoldCube : NodeList → Bool → ℕ → List Literal → List ℕ → Type 0
HoldCube list inside node cube front =
    (s : List Bool) → in_cube cube s ≡ true → in_node list node s ≡ inside
    → (x : ℕ) × Contains front x × (in_node list x s ≡ inside)

-- Both lists of nodes are met after this cube, the second one where it is ready.
pub record IsLevel (list : NodeList) (inside : Bool) (node : ℕ) (cube : List Literal)
    (level : Level) : Type 0 where
  pub start_below : AreBelowBound (node + 1) level.start.items
  pub moved_below : AreBelowBound (node + 1) level.moved.items
  pub start : HoldCube list inside node cube level.start.items
  pub moved : level.ready ≡ true → HoldCube list inside node cube level.moved.items

-- There is a level before the first literal and after each of the first ones, and there may be
-- others.
pub record AreFronts (list : NodeList) (inside : Bool) (node : ℕ) (literals : List Literal)
    (reached : ℕ) (levels : List Level) : Type 0 where
  pub within : IsNode list node
  pub few : reached ≤ length literals
  pub sizes : reached < length levels
  pub each : (i : ℕ) (d : Level) → i ≤ reached
      → IsLevel list inside node (take i literals) (slice_index_or levels i d)

-- A question about the node, or about what is outside it: these literals are assumed, after the
-- first ones there are fronts, and exclusions are known; and where it is refuted, no state that is
-- looked for is in the cube.
pub record StandsAlong (list : NodeList) (inside : Bool) (node atoms : ℕ)
    (wanted : List Bool → Bool) (assumed literals : List Literal) (reached : ℕ)
    (levels : List Level) (table : List (Vec ℕ)) (refuted : Bool) : Type 0 where
  pub over : atoms ≡ list.atoms
  pub same : assumed ≡ literals
  pub below : SpeakBelow list.atoms literals
  pub fronts : AreFronts list inside node literals reached levels
  pub known : AreExclusions list inside node table
  pub none : refuted ≡ true → IsBarren atoms wanted literals
