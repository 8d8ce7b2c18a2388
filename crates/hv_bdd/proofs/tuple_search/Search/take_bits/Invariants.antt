use Rattle.std.proofs.Common.{◌<◌, length}
use Rattle.hv_bdd.specs.Working.Graphs.{AgreesWithNodes, FitsBits, in_asked}
use Rattle.hv_bdd.specs.Live.{moves}
use Rattle.hv_bdd.specs.Working.Search.{tuple_at, tuples_of}
use Rattle.hv_bdd.proofs.tuple_search.Search.take_bits.Given as goal

abbrev pub invariant-loop-at : goal.invariant-loop-at
invariant-loop-at l = record {
  within : l.at < length l.reached.tuples.keys;
  fits : FitsBits (moves l.self.setting) l.state;
  agrees : AgreesWithNodes (in_asked l.self.setting)
      (λ o. o.positive) l.state l.self.asked (tuple_at (tuples_of l.reached.tuples) l.at);
}

abbrev pub decreases-loop-at : goal.decreases-loop-at
decreases-loop-at l = l.at
