use Rattle.std.proofs.Common.{◌≡◌, ◌<◌, ◌≤◌, ◌++◌, ℕ, drop, get_or, length, take}
use Rattle.hv_bdd.specs.Live.{moves}
use Rattle.hv_bdd.specs.Tuples.{move_all}
use Rattle.hv_bdd.specs.Working.Graphs.{limit}
use Rattle.hv_bdd.specs.declared.asked.Asked.{Asked}
use Rattle.hv_bdd.proofs.tuple_search.Search.move_each.Given as goal

abbrev pub invariant-loop-k : goal.invariant-loop-k
invariant-loop-k l = record {
  moved : take l.k l.tuple ++ move_all (moves l.self.setting) l.marks.place l.bit
      (drop l.k l.self.asked) (drop l.k l.tuple)
      ≡ move_all (moves l.self.setting) l.marks.place l.bit l.self.asked l.fn.tuple;
  size : length l.tuple ≡ length l.self.asked;
  each : (j : ℕ) (o : Asked) → l.k ≤ j → j < length l.tuple
      → get_or l.tuple j 0 < limit l.self.setting (get_or l.self.asked j o).which;
}
