use Rattle.std.proofs.Common.{◌≡◌, ◌<◌, ℕ, true, get_or}
use Rattle.std.specs.List.{All}
use Rattle.hv_reach.specs.Reached.{has_pair}
use Rattle.hv_reach.specs.Working.Table.{IsPairStep, PairsGrowWithin}
use Rattle.hv_reach.proofs.pair_table.mark_diagonal.Given as goal

abbrev pub invariant-loop-atom : goal.invariant-loop-atom
invariant-loop-atom l = record {
  step : IsPairStep l.atoms l.fn.rows.items l.fn.flags l.rows.items l.flags l.moved;
  done : (k : ℕ) → k < l.atom-index → has_pair l.rows.items (get_or l.list k 0) (get_or l.list k 0)
      ≡ true;
  least : PairsGrowWithin (λ set. All (λ p. set p p ≡ true) l.list) l.fn.rows.items l.rows.items;
}
