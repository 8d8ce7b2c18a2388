use Rattle.std.proofs.Common.{◌≡◌, take}
use Rattle.hv_bdd.specs.Live.{roots}
use Rattle.hv_bdd.proofs.tuple_search.Search.roots.Given as goal

abbrev pub invariant-loop-asked : goal.invariant-loop-asked
invariant-loop-asked l = l.tuple.items ≡ roots l.self.setting
    (take l.asked-index l.self.asked)
