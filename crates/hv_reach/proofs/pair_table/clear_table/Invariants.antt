use Rattle.std.proofs.Common.{◌≡◌, ◌<◌, ℕ, false}
use Rattle.hv_reach.specs.Reached.{has_pair}
use Rattle.hv_reach.specs.Working.Table.{IsSquare}
use Rattle.hv_reach.proofs.pair_table.clear_table.Given as goal

abbrev pub invariant-loop-atom : goal.invariant-loop-atom
invariant-loop-atom l = record {
  square : IsSquare l.atoms l.rows.items;
  none : (p q : ℕ) → p < l.atom → has_pair l.rows.items p q ≡ false;
}
