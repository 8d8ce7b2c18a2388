-- Which two literals exclude each other.
use Rattle.std.specs.Prelude.{◌≡◌, ◌<◌, ◌+◌, ◌*◌, ◌/◌, ◌%◌, ℕ, Bool, true, List, cond, length}
use Rattle.std.specs.Prelude.{slice_index, slice_index_or}
use Rattle.std.specs.Global.{Vec}
use Rattle.std.specs.Int.{bit_at}
use Rattle.hv_sets.specs.declared.literal.Literal.{Literal}
use Rattle.hv_sets.specs.Truth.{in_literal}
use Rattle.hv_bdd.specs.Nodes.{NodeList, in_node}

-- where the word of a literal stands in its batch
abbrev pub word_place : Literal → ℕ
word_place l = l.atom * 2 + cond l.positive 1 0

-- the bit of a literal in the words of its batch, which is of 32 atoms
abbrev pub bit_of : Literal → ℕ
bit_of l = l.atom % 32 * 2 + cond l.positive 1 0

-- where a state of the node, or outside it, has a literal of the batch and another one, the word of
-- that one has the bit of the first. Nothing is said of literals behind the last word
abbrev pub IsBatch : NodeList → Bool → ℕ → ℕ → List ℕ → Type 0
IsBatch list inside node batch words =
    (x y : Literal) (s : List Bool) → x.atom / 32 ≡ batch → in_node list node s ≡ inside
    → in_literal x s ≡ true → in_literal y s ≡ true → word_place y < length words
    → bit_at (slice_index words (word_place y)) (bit_of x) ≡ 1

-- the words of each batch up to the last one that is there
abbrev pub AreExclusions : NodeList → Bool → ℕ → List (Vec ℕ) → Type 0
AreExclusions list inside node table =
    (batch : ℕ) (d : Vec ℕ) → batch < length table
    → IsBatch list inside node batch (slice_index_or table batch d).items
