use Rattle.std.proofs.Common.{◌≡◌, ◌<◌, ℕ, length, slice_index_or}
use Rattle.hv_formula.proofs.arranged.Arranged.rising.Given as goal

abbrev pub invariant-loop-place : goal.invariant-loop-place
invariant-loop-place l =
    (length l.order.items ≡ l.place) × (length l.places.items ≡ l.place)
    × ((k : ℕ) → k < l.place → slice_index_or l.order.items k 0 ≡ k)
    × ((k : ℕ) → k < l.place → slice_index_or l.places.items k 0 ≡ k)
