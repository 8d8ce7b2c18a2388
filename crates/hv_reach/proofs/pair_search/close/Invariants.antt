use Rattle.std.proofs.Common.{◌≡◌, ◌≤◌, ◌+◌, ℕ, true, false, cond}
use Rattle.hv_task.specs.State.{has_atom}
use Rattle.hv_task.specs.Strips.{atoms}
use Rattle.hv_reach.specs.Reached.{has_pair}
use Rattle.hv_reach.specs.Working.Course.{IsPairSearch}
use Rattle.hv_reach.specs.Working.Table.{KeepAllPairs, PairsGrowWithin, missing_cells}
use Rattle.hv_reach.proofs.pair_search.close.Given as goal

abbrev pub invariant-loop-moved : goal.invariant-loop-moved
invariant-loop-moved l = record {
  search : IsPairSearch l.task l.search;
  grows : (p q : ℕ) → has_pair l.fn.search.rows.items p q ≡ true → has_pair l.search.rows.items p q
      ≡ true;
  quiet : l.moved ≡ false → (x : ℕ) → x ≤ atoms l.task → has_atom l.search.flags x ≡ false;
  least : PairsGrowWithin (KeepAllPairs l.task.actions) l.fn.search.rows.items l.search.rows.items;
}

abbrev pub decreases-loop-moved : goal.decreases-loop-moved
decreases-loop-moved l = missing_cells l.search.rows.items + cond l.moved 1 0
