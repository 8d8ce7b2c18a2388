use Rattle.std.proofs.Common.{◌≡◌, ◌<◌, ℕ, true, length}
use Rattle.hv_task.specs.State.{has_atom}
use Rattle.hv_bdd.specs.Live.{is_marked, bit_mark_of}
use Rattle.hv_bdd.proofs.tuple_search.Search.fill.Given as goal

abbrev pub invariant-loop-atom : goal.invariant-loop-atom
invariant-loop-atom l = record {
  size : length l.state ≡ l.self.setting.list.atoms;
  done : (a : ℕ) → a < l.atom
      → is_marked (bit_mark_of l.self.setting.needed a) (has_atom l.state a) ≡ true;
}
