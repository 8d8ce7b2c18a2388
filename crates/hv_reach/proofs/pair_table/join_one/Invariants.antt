use Rattle.std.proofs.Common.{◌≡◌, ◌<◌, ℕ, true}
use Rattle.hv_task.specs.State.{has_atom}
use Rattle.hv_reach.specs.Reached.{has_pair}
use Rattle.hv_reach.specs.Working.Table.{IsPairStep, missing_cells, PairsGrowWithin}
use Rattle.hv_reach.proofs.pair_table.join_one.Given as goal

abbrev pub invariant-loop-second : goal.invariant-loop-second
invariant-loop-second l = record {
  step : IsPairStep l.atoms l.fn.rows.items l.fn.flags l.rows.items l.flags l.moved;
  done : (k : ℕ) → k < l.from → has_atom l.mask k ≡ true → has_pair l.rows.items l.first k ≡ true;
  least : PairsGrowWithin (λ set. (q : ℕ) → has_atom l.mask q ≡ true → set l.first q ≡ true)
      l.fn.rows.items l.rows.items;
}

abbrev pub decreases-loop-second : goal.decreases-loop-second
decreases-loop-second l = missing_cells l.rows.items
