use Rattle.std.proofs.Common.{◌≡◌, ◌<◌, ◌≤◌, ◌-◌, ◌⊎◌, ℕ, true, get_or, length}
use Rattle.hv_task.specs.State.{has_atom}
use Rattle.hv_reach.proofs.pair_course.list_news.Given as goal

abbrev pub invariant-loop-atom : goal.invariant-loop-atom
invariant-loop-atom l = record {
  count : l.news.count ≤ length l.news.atoms.items;
  below : (k : ℕ) → k < l.news.count → get_or l.news.atoms.items k 0 < length l.row;
  from : l.from ≤ length l.row;
  done : (q : ℕ) → q < l.from → has_atom l.row q ≡ true → (has_atom l.told q ≡ true)
      ⊎ ((k : ℕ) × (k < l.news.count) × (get_or l.news.atoms.items k 0 ≡ q));
}

abbrev pub decreases-loop-atom : goal.decreases-loop-atom
decreases-loop-atom l = length l.row - l.from
