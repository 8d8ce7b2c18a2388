use Rattle.std.proofs.Common.{◌≡◌, ◌<◌, ℕ, true, get_or}
use Rattle.std.specs.List.{All}
use Rattle.hv_reach.specs.Reached.{HasPairsOf, has_pair}
use Rattle.hv_reach.specs.Working.Table.{IsPairStep, PairsGrowWithin}
use Rattle.hv_reach.proofs.pair_table.mark_square.Given as goal

abbrev pub invariant-loop-first : goal.invariant-loop-first
invariant-loop-first l = record {
  step : IsPairStep l.atoms l.fn.rows.items l.fn.flags l.rows.items l.flags l.moved;
  done : (k : ℕ) → k < l.first-index → All
      (λ q. has_pair l.rows.items (get_or l.list k 0) q ≡ true) l.list;
  least : PairsGrowWithin (λ set. HasPairsOf set l.list) l.fn.rows.items l.rows.items;
}
