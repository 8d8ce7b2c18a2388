use Rattle.std.specs.List.{All}
use Rattle.hv_basic.specs.Leaves.{IsLeafRead, places}
use Rattle.hv_basic.specs.Working.Work.{parts_on}
use Rattle.hv_basic.proofs.Leafing.{IsLeafing}
use Rattle.hv_basic.proofs.leaves.leaves_within.Given as goal

abbrev pub invariant-sets : goal.invariant-sets
invariant-sets l = record {
  leafing : IsLeafing (parts_on l.side) l.table.lines l.root l.work (places l.found.items) l.bound;
  read : All (IsLeafRead l.table.lines) l.found.items;
}

abbrev pub decreases-sets : goal.decreases-sets
decreases-sets l = l.bound
