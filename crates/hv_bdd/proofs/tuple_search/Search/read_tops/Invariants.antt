use Rattle.std.proofs.Common.{◌≡◌, ◌≤◌, ℕ, map, take}
use Rattle.std.specs.List.{All}
use Rattle.hv_bdd.specs.Live.{moves}
use Rattle.hv_bdd.specs.Tuples.{least}
use Rattle.hv_bdd.proofs.tuple_search.Search.read_tops.Given as goal

abbrev pub invariant-loop-tuple : goal.invariant-loop-tuple
invariant-loop-tuple l = record {
  tops : l.tops.items
      ≡ map (λ t. least (moves l.self.setting) l.self.asked t.items) (take l.tuple-index l.tuples);
  least : All (λ v. l.least ≤ v) l.tops.items;
  great : (w : ℕ) → w ≤ l.self.setting.list.atoms → All (λ v. w ≤ v) l.tops.items → w ≤ l.least;
}
