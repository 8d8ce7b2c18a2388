-- Nodes found by their numbers: chains of the places of nodes that fall into one slot.
use Rattle.std.specs.Prelude.{◌≡◌, ◌<◌, ◌≤◌, ◌+◌, ◌-◌, ◌*◌, ◌/◌, ◌%◌, ◌^◌, ℕ, List, length}
use Rattle.std.specs.Prelude.{slice_index, slice_index_or}
use Rattle.hv_bdd.specs.declared.chains.Chains.{Chains}
use Rattle.hv_bdd.specs.declared.node.Node.{Node}

-- the node at a place of a list
abbrev pub listed_at : List Node → ℕ → Node
listed_at nodes k = slice_index_or nodes k record { atom = 0; low = 0; high = 0 }

-- into which of so many slots a node falls, by this factor
unfoldable pub node_slot_of : ℕ → ℕ → Node → ℕ
node_slot_of factor slots node =
    ((node.low + node.high * 2 ^ 32) * factor % 2 ^ 64 / 2 ^ 32 + node.atom) * factor % 2 ^ 64
    * slots / 2 ^ 64

-- into which slot the node at a place falls
abbrev pub node_slot_at : List Node → ℕ → ℕ → ℕ → ℕ
node_slot_at nodes factor slots k = node_slot_of factor slots (listed_at nodes k)

-- the end is one more than the last place below the bound of which the test says x, or 0 where
-- there is none
pub record IsNodeEnd (test : ℕ → ℕ) (x bound end : ℕ) : Type 0 where
  pub upto : end ≤ bound
  pub after : (k : ℕ) → k < bound → test k ≡ x → k < end
  pub there : 0 < end → test (end - 1) ≡ x

-- each place leads to the last earlier one of its slot
abbrev pub IsNodeChain : List Node → List ℕ → ℕ → ℕ → ℕ → Type 0
IsNodeChain nodes before factor slots n =
    (p : ℕ) → p < n
    → IsNodeEnd (node_slot_at nodes factor slots) (node_slot_at nodes factor slots p) p (slice_index
    before p)

-- the chains from the slots on have the first n places
pub record IsNodeLinked (nodes : List Node) (before heads : List ℕ) (factor slots n : ℕ) : Type 0
  where
    pub starts : (b : ℕ) → b < slots → IsNodeEnd (node_slot_at nodes factor slots) b n (slice_index
        heads b)
    pub chain : IsNodeChain nodes before factor slots n

-- the chains have the places of all these nodes
pub record IsChained (nodes : List Node) (chains : Chains) : Type 0 where
  pub linked : IsNodeLinked nodes chains.before.items chains.heads.items chains.turn.factor
      (length chains.heads.items) (length nodes)
  pub size : length chains.before.items ≡ length nodes
  pub some : 0 < length nodes → 0 < length chains.heads.items

-- the node is listed
abbrev pub IsListedNode : List Node → Node → Type 0
IsListedNode nodes node = (k : ℕ) × (k < length nodes) × (listed_at nodes k ≡ node)

-- the node is listed at places below this one alone
abbrev pub AreAllBelow : List Node → Node → ℕ → Type 0
AreAllBelow nodes node bound = (k : ℕ) → k < length nodes → listed_at nodes k ≡ node → k < bound
