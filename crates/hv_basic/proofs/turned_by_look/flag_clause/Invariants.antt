use Rattle.std.proofs.Common.{◌≡◌, ◌<◌, ℕ, true, get_or, length}
use Rattle.hv_sets.specs.declared.literal.Literal.{Literal}
use Rattle.hv_basic.specs.Working.Flags.{flag_or_false}
use Rattle.hv_basic.specs.Working.Framed.{IsFlagged}
use Rattle.hv_basic.proofs.turned_by_look.flag_clause.Given as goal

abbrev pub invariant-loop-literal : goal.invariant-loop-literal
invariant-loop-literal l = record {
  size : length l.flags.items ≡ length l.fn.flags.items;
  kept : (atom : ℕ) → flag_or_false l.fn.flags.items atom ≡ true
      → flag_or_false l.flags.items atom ≡ true;
  has : (j : ℕ) (d : Literal) → j < l.literal-index
      → IsFlagged l.value l.adds l.flags.items (get_or l.clause j d);
}
