use Rattle.std.proofs.Common.{◌≡◌, ◌≢◌, ◌<◌, ℕ, false, get_or, length, true}
use Rattle.hv_bdd.proofs.atom_order.has_all.Given as goal

abbrev pub invariant-loop-place : goal.invariant-loop-place
invariant-loop-place l = record {
  all : l.all ≡ true → (a : ℕ) → a < l.place-index → get_or l.places a 0 ≢ l.none;
  some : l.all ≡ false → (a : ℕ) × (a < length l.places) × (get_or l.places a 0 ≡ l.none);
}
