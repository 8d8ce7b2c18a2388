-- Fronts: the nodes that are met after some literals, from the root of a diagram down.
use Rattle.std.specs.Prelude.{◌≡◌, ◌<◌, ◌≤◌, ◌+◌, ◌++◌, ◌⊎◌, ◌∷◌, ℕ, Bool, true, List, [], length}
use Rattle.std.specs.Prelude.{slice_index_or}
use Rattle.std.specs.List.{Contains}
use Rattle.hv_sets.specs.declared.literal.Literal.{Literal}
use Rattle.hv_sets.specs.Truth.{in_cube, in_literal}
use Rattle.hv_bdd.specs.Nodes.{NodeList, in_node}
use Rattle.hv_bdd.specs.declared.level.Level.{Level}
use Rattle.hv_bdd.specs.Fronts.{AreBelowBound}

-- the new list goes on where the old one ended
abbrev pub IsContinued : List ℕ → List ℕ → Type 0
IsContinued old new = (more : List ℕ) × (new ≡ old ++ more)

-- the node is in the list, or was put last
abbrev pub LiesIn : List ℕ → ℕ → List ℕ → Type 0
LiesIn old node new = ((new ≡ old) × Contains old node) ⊎ (new ≡ old ++ node ∷ [])

-- a state that is in one of the nodes, or outside it, is so in one of the others
abbrev pub MovesTo : NodeList → Bool → List ℕ → List ℕ → Type 0
MovesTo list inside old new =
    (s : List Bool) (x : ℕ) → Contains old x → in_node list x s ≡ inside
    → (y : ℕ) × Contains new y × (in_node list y s ≡ inside)

-- the same of the states in which a literal is true
abbrev pub Turns : NodeList → Bool → Literal → List ℕ → List ℕ → Type 0
Turns list inside literal old new =
    (s : List Bool) (x : ℕ) → in_literal literal s ≡ true → Contains old x
    → in_node list x s ≡ inside
    → (y : ℕ) × Contains new y × (in_node list y s ≡ inside)

-- the node is moved, or waits from this place of the queue on
abbrev pub IsPending : List ℕ → List ℕ → ℕ → ℕ → Type 0
IsPending out queue at y =
    Contains out y ⊎ ((k : ℕ) × (at ≤ k) × (k < length queue) × (slice_index_or queue k 0 ≡ y))

-- a state that is in a node of the queue, or outside it, is so in a node that was moved or waits,
-- and
-- that isn't greater
abbrev pub IsAhead : NodeList → Bool → List ℕ → List ℕ → ℕ → Type 0
IsAhead list inside out queue at =
    (s : List Bool) (x : ℕ) → Contains queue x → in_node list x s ≡ inside
    → (y : ℕ) × IsPending out queue at y × (y ≤ x) × (in_node list y s ≡ inside)

-- the nodes of a level were moved down, from its start on or from where they were
abbrev pub IsMovedDown : NodeList → Bool → Level → Level → Type 0
IsMovedDown list inside old new =
    MovesTo list inside old.start.items new.moved.items
    ⊎ ((old.ready ≡ true) × MovesTo list inside old.moved.items new.moved.items)

-- The level that follows by a literal, and the one before it, whose nodes were moved further down.
pub record IsNextLevel (list : NodeList) (inside : Bool) (bound : ℕ) (literal : Literal)
    (old new next : Level) : Type 0 where
  pub same : new.start.items ≡ old.start.items
  pub moved : IsMovedDown list inside old new
  pub turns : Turns list inside literal new.moved.items next.start.items
  pub unready : next.moved.items ≡ []
  pub next_unready : next.ready ≡ true → ⊥
  pub moved_below : AreBelowBound bound new.moved.items
  pub next_below : AreBelowBound bound next.start.items

-- After the level at a depth stands one that follows by a literal; those before it are the same.
pub record GoesDeeper (list : NodeList) (inside : Bool) (bound : ℕ) (literal : Literal) (depth : ℕ)
    (old new : List Level) : Type 0 where
  pub size : depth + 1 < length new
  pub before : (i : ℕ) (d : Level) → i < depth → slice_index_or new i d ≡ slice_index_or old i d
  pub next : (d : Level) → IsNextLevel list inside bound literal (slice_index_or old depth d)
      (slice_index_or new depth d) (slice_index_or new (depth + 1) d)

-- no state of the cube is in the node, or outside it
abbrev pub IsMetNowhere : NodeList → Bool → ℕ → List Literal → Type 0
IsMetNowhere list inside node cube =
    (s : List Bool) → in_cube cube s ≡ true → in_node list node s ≡ inside → ⊥
