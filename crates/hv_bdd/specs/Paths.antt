-- Paths: the walks from a node to an end, by the bits that they take.
use Rattle.std.specs.Prelude.{◌≡◌, ◌<◌, ◌≤◌, ◌+◌, ◌-◌, ◌≢◌, ℕ, zero, suc, Bool, true, false, List}
use Rattle.std.specs.Prelude.{[], ◌∷◌, ◌++◌, cond, length, map, nat_eq, nat_lt, slice_index_or}
use Rattle.hv_sets.specs.Cubes.{cube_of}
use Rattle.hv_sets.specs.declared.cursor.Cursor.{Cursor}
use Rattle.hv_sets.specs.declared.literal.Literal.{Literal}
use Rattle.hv_bdd.specs.Nodes.{NodeList, node_count}
use Rattle.hv_bdd.specs.Reduced.{node_at}

-- the path of a node that is the end itself
abbrev pub at_end : ℕ → ℕ → List (List Literal)
at_end end node = cond (nat_eq node end) ([] ∷ []) []

-- the paths with one literal more in front
abbrev pub with_bit : ℕ → Bool → List (List Literal) → List (List Literal)
with_bit atom bit paths = map (λ p. record { atom = atom; positive = bit } ∷ p) paths

-- the paths to an end of at most so many steps: those by the low child, and then those by the high
-- one
unfoldable pub paths_in : NodeList → ℕ → ℕ → ℕ → List (List Literal)
paths_in list end zero node = at_end end node
paths_in list end (suc steps) node =
    cond (nat_lt node 2) (at_end end node)
    (with_bit (node_at list node).atom false (paths_in list end steps (node_at list node).low)
    ++ with_bit (node_at list node).atom true (paths_in list end steps (node_at list node).high))

-- the paths from a node to an end: since each step leads to a lower number, they have no more steps
-- than the node's own number
abbrev pub paths : NodeList → ℕ → ℕ → List (List Literal)
paths list end node = paths_in list end node node

-- their cubes
abbrev pub path_cubes : NodeList → ℕ → ℕ → List (List Literal)
path_cubes list end node = map cube_of (paths list end node)

-- A stack of nodes, each a child of the one before, denotes what is left of a walk over paths.

-- the child is the high one
abbrev pub is_high : NodeList → ℕ → ℕ → Bool
is_high list node child = nat_eq child (node_at list node).high

-- the paths that are left of the first node of the stack, where `inner` are left of the last one
unfoldable pub left_of : NodeList → ℕ → List ℕ → List (List Literal) → List (List Literal)
left_of list end [] inner = []
left_of list end (n ∷ []) inner = inner
left_of list end (n ∷ m ∷ more) inner =
    with_bit (node_at list n).atom (is_high list n m) (left_of list end (m ∷ more) inner)
    ++ cond (is_high list n m) []
    (with_bit (node_at list n).atom true (paths list end (node_at list n).high))

-- the last node of a stack
abbrev pub last_of : List ℕ → ℕ
last_of stack = slice_index_or stack (length stack - 1) 0

-- the stack has a node, and each but the last has children
pub record IsStack (list : NodeList) (stack : List ℕ) : Type 0 where
  pub some : 0 < length stack
  pub node : (k : ℕ) → k < length stack → slice_index_or stack k 0 < node_count list
  pub inner : (k : ℕ) → k + 1 < length stack → 2 ≤ slice_index_or stack k 0

-- the cursor denotes a walk over paths to this end: its path is empty, and so it is before the
-- first step, or it leads there
pub record StandsForWalk (list : NodeList) (end : ℕ) (cursor : Cursor) : Type 0 where
  pub first : cursor.place ≡ 0 → cursor.path.items ≡ []
  pub stack : cursor.path.items ≢ [] → IsStack list cursor.path.items
  pub last : cursor.path.items ≢ [] → last_of cursor.path.items ≡ end

-- the paths that are left where it stands: all of them before the first step, and then those that
-- its path leaves
abbrev pub left_at : NodeList → ℕ → ℕ → Cursor → List (List Literal)
left_at list end root cursor =
    cond (nat_eq cursor.place 0) (paths list end root) (left_of list end cursor.path.items [])
