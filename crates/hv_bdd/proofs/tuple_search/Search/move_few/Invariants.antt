use Rattle.std.proofs.Common.{◌≡◌, ◌++◌, drop, length, take}
use Rattle.hv_bdd.specs.Live.{moves}
use Rattle.hv_bdd.specs.Tuples.{is_live, move_all}
use Rattle.hv_bdd.proofs.tuple_search.Search.move_few.Given as goal

abbrev pub invariant-loop-k : goal.invariant-loop-k
invariant-loop-k l = record {
  room : length l.row ≡ 8;
  moved : take l.k l.row ++ move_all (moves l.self.setting) l.marks.place l.bit
      (drop l.k l.self.asked) (drop l.k l.tuple)
      ≡ move_all (moves l.self.setting) l.marks.place l.bit l.self.asked l.tuple;
  live : is_live (moves l.self.setting) (drop l.k l.self.asked)
      (move_all (moves l.self.setting) l.marks.place l.bit (drop l.k l.self.asked)
      (drop l.k l.tuple))
      ≡ is_live (moves l.self.setting) l.self.asked
      (move_all (moves l.self.setting) l.marks.place l.bit l.self.asked l.tuple);
}
