use Rattle.std.proofs.Common.{◌≡◌, length, take}
use Rattle.std.specs.List.{All}
use Rattle.hv_bdd.specs.Working.Untouched.{AsksAmong}
use Rattle.hv_bdd.proofs.tuple_search.Search.note.Given as goal

abbrev pub invariant-loop-tuple : goal.invariant-loop-tuple
invariant-loop-tuple l = record {
  size : length l.places ≡ l.self.setting.list.atoms;
  asks : All (λ t. AsksAmong l.self l.places t.items) (take l.tuple-index l.tuple-items);
}
