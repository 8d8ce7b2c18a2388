use Rattle.std.proofs.Common.{◌<◌, ◌≤◌, ◌-◌, ℕ, get_or, length}
use Rattle.std.specs.List.{Contains}
use Rattle.hv_explicit.proofs.made.past_deleted.Given as goal

abbrev pub invariant-loop-end : goal.invariant-loop-end
invariant-loop-end l = record {
  from : l.place ≤ l.end;
  within : l.end ≤ length l.held;
  deleted : (k : ℕ) → l.place ≤ k → k < l.end → Contains l.del (get_or l.held k 0);
}

abbrev pub decreases-loop-end : goal.decreases-loop-end
decreases-loop-end l = length l.held - l.end
