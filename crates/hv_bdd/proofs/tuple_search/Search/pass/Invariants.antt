use Rattle.std.proofs.Common.{map, take}
use Rattle.hv_bdd.specs.Live.{moves, roots}
use Rattle.hv_bdd.specs.Working.Search.{tuples_of}
use Rattle.hv_bdd.specs.Working.Sweeping.{IsSweptPlace}
use Rattle.hv_bdd.proofs.tuple_search.Search.pass.Given as goal

abbrev pub invariant-loop-k : goal.invariant-loop-k
invariant-loop-k l =
    IsSweptPlace (moves l.self.setting) l.self.asked (roots l.self.setting l.self.asked) l.place
    (take l.k (map (λ t. t.items) l.tuples)) (tuples_of l.later)
