-- Working definitions beside those of `Paths`: for private contracts and proofs.
use Rattle.std.specs.Prelude.{◌≡◌, ◌<◌, ◌+◌, ℕ, List, [], ◌∷◌, length, min, slice_index_or}
use Rattle.hv_sets.specs.declared.literal.Literal.{Literal}
use Rattle.hv_bdd.specs.Nodes.{NodeList}
use Rattle.hv_bdd.specs.Reduced.{node_at}
use Rattle.hv_bdd.specs.Paths.{paths, is_high}

-- the bits that lead from each node of the stack to the next
unfoldable pub literals_of : NodeList → List ℕ → List Literal
literals_of list [] = []
literals_of list (n ∷ []) = []
literals_of list (n ∷ m ∷ more) =
    record { atom = (node_at list n).atom; positive = is_high list n m }
    ∷ literals_of list (m ∷ more)

-- the counts are those of the first nodes, exact up to the cap, and one more beyond
abbrev pub AreCounted : NodeList → ℕ → ℕ → List ℕ → Type 0
AreCounted list end cap counts = (k : ℕ) → k < length counts
    → slice_index_or counts k 0 ≡ min (length (paths list end k)) (cap + 1)
