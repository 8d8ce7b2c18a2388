use Rattle.std.proofs.Common.{◌≡◌, ◌-◌}
use Rattle.hv_bdd.specs.Working.Search.{AreMarksOf, Explored}
use Rattle.hv_bdd.proofs.tuple_search.Search.reach_all.Given as goal

abbrev pub invariant-loop-done : goal.invariant-loop-done
invariant-loop-done l = record {
  explored : Explored l.self l.done l.reached;
  marks : AreMarksOf l.self.setting l.marks;
  same : l.self ≡ l.fn.self;
}

abbrev pub decreases-loop-done : goal.decreases-loop-done
decreases-loop-done l = l.budget - l.done
