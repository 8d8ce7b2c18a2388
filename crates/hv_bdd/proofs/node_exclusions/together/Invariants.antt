use Rattle.std.proofs.Common.{◌≡◌, ◌<◌, ℕ, slice_index}
use Rattle.std.specs.Int.{bit_at}
use Rattle.hv_bdd.proofs.node_exclusions.together.Given as goal

-- the word has the bits of the masks up to here
abbrev pub invariant-loop-k : goal.invariant-loop-k
invariant-loop-k l =
    (j i : ℕ) → j < l.k
    → bit_at (slice_index l.masks (slice_index l.nodes j)) i ≡ 1 → bit_at l.word i ≡ 1
