use Rattle.std.proofs.Common.{◌≡◌, ◌+◌, ◌-◌, ◌<◌, ◌≤◌, ℕ, get_or}
use Rattle.hv_explicit.proofs.results.alike.Given as goal

abbrev pub invariant-loop-many : goal.invariant-loop-many
invariant-loop-many l = record {
  within : l.many ≤ l.most;
  same : (k : ℕ) → k < l.many → get_or l.list (l.place + k) 0 ≡ get_or l.held (l.at + k) 0;
  less : (k : ℕ) → k < l.many → get_or l.list (l.place + k) 0 < l.bound;
}

abbrev pub decreases-loop-many : goal.decreases-loop-many
decreases-loop-many l = l.most - l.many

abbrev pub invariant-loop-many-2 : goal.invariant-loop-many-2
invariant-loop-many-2 l = record {
  within : l.many ≤ l.most;
  same : (k : ℕ) → k < l.many → get_or l.list (l.place + k) 0 ≡ get_or l.held (l.at + k) 0;
  less : (k : ℕ) → k < l.many → get_or l.list (l.place + k) 0 < l.bound;
}

abbrev pub decreases-loop-many-2 : goal.decreases-loop-many-2
decreases-loop-many-2 l = l.most - l.many
