-- Working definitions beside those of `Exclusions`: for private contracts and proofs.
use Rattle.std.specs.Prelude.{◌≡◌, ◌<◌, ◌+◌, ◌∷◌, ◌/◌, ◌⊎◌, [], ℕ, Bool, true, List, length}
use Rattle.std.specs.Prelude.{slice_index, slice_index_or}
use Rattle.std.specs.Global.{Vec}
use Rattle.std.specs.Int.{bit_at}
use Rattle.std.specs.List.{Contains}
use Rattle.hv_sets.specs.declared.literal.Literal.{Literal}
use Rattle.hv_sets.specs.Truth.{in_literal}
use Rattle.hv_bdd.specs.declared.node_exclusions.Landing.{Landing}
use Rattle.hv_bdd.specs.Exclusions.{bit_of, word_place}
use Rattle.hv_bdd.specs.Fronts.{AreBelowBound, HoldCube}
use Rattle.hv_bdd.specs.Nodes.{NodeList, in_node}

-- where a state of the node, or outside it, has a literal of the batch, the word has its bit
abbrev pub IsMask : NodeList → Bool → ℕ → ℕ → ℕ → Type 0
IsMask list inside batch node word =
    (x : Literal) (s : List Bool) → x.atom / 32 ≡ batch → in_node list node s ≡ inside
    → in_literal x s ≡ true → bit_at word (bit_of x) ≡ 1

-- the masks of the first nodes
abbrev pub AreMasks : NodeList → Bool → ℕ → List ℕ → Type 0
AreMasks list inside batch masks =
    (n : ℕ) → n < length masks → IsMask list inside batch n (slice_index masks n)

-- the states of the node, or outside it, in which the literal is true are so of the nodes that are
-- met after it, and these aren't greater
pub record IsLanding (list : NodeList) (inside : Bool) (node : ℕ) (landing : Landing) : Type 0 where
  pub atom : landing.literal.atom < list.atoms
  pub below : AreBelowBound (node + 1) landing.nodes.items
  pub holds : HoldCube list inside node (landing.literal ∷ []) landing.nodes.items

-- each of them is so
abbrev pub AreLandings : NodeList → Bool → ℕ → List Landing → Type 0
AreLandings list inside node landings =
    (k : ℕ) (d : Landing) → k < length landings
    → IsLanding list inside node (slice_index_or landings k d)

-- the table has a word of the second literal, and that hasn't the bit of the first
pub record IsExcluded (table : List (Vec ℕ)) (x y : Literal) : Type 0 where
  pub words : Vec ℕ
  pub batch : x.atom / 32 < length table
  pub there : slice_index_or table (x.atom / 32) words ≡ words
  pub word : word_place y < length words.items
  pub clear : bit_at (slice_index words.items (word_place y)) (bit_of x) ≡ 1 → ⊥

-- one of the literals excludes this one, or is excluded by it
abbrev pub HasExclusion : List (Vec ℕ) → List Literal → Literal → Type 0
HasExclusion table earlier literal =
    (x : Literal) × Contains earlier x × (IsExcluded table x literal ⊎ IsExcluded table literal x)
