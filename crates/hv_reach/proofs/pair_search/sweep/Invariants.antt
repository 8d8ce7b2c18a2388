use Rattle.std.proofs.Common.{◌≡◌, ◌<◌, ◌-◌, ℕ, false, length}
use Rattle.hv_task.specs.State.{has_atom}
use Rattle.hv_reach.specs.Working.Course.{IsPairSearch}
use Rattle.hv_reach.specs.Working.Table.{IsTurn}
use Rattle.hv_reach.proofs.pair_search.sweep.Given as goal

abbrev pub invariant-loop-flag : goal.invariant-loop-flag
invariant-loop-flag l = record {
  turn : IsTurn l.task.actions l.fn.search l.search l.moved;
  quiet : l.moved ≡ false → (x : ℕ) → x < l.from → has_atom l.search.flags x ≡ false;
  search : IsPairSearch l.task l.search;
}

abbrev pub decreases-loop-flag : goal.decreases-loop-flag
decreases-loop-flag l = length l.search.flags - l.from
