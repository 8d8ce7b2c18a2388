use Rattle.std.proofs.Common.{◌<◌, ◌≤◌, ◌⊎◌, ℕ, get_or, length}
use Rattle.std.specs.List.{Contains}
use Rattle.hv_explicit.proofs.made.is_changed.Given as goal

abbrev pub invariant-loop-atom : goal.invariant-loop-atom
invariant-loop-atom l = record {
  kept_within : l.kept ≤ length l.held;
  added_within : l.added ≤ length l.add;
  listed : (k : ℕ) → k < l.atom-index
      → Contains l.held (get_or l.list k 0) ⊎ Contains l.add (get_or l.list k 0);
  kept : (k : ℕ) → k < l.kept
      → Contains l.list (get_or l.held k 0) ⊎ Contains l.del (get_or l.held k 0);
  added : (k : ℕ) → k < l.added → Contains l.list (get_or l.add k 0);
}
