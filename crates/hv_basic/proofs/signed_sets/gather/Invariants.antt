use Rattle.std.proofs.Common.{List, take}
use Rattle.std.specs.List.{All}
use Rattle.hv_lines.specs.declared.line.Line.{Line}
use Rattle.hv_basic.specs.Working.Gathered.{AreGathered, AreOthers}
use Rattle.hv_basic.specs.Leaves.{IsLeafRead, places}
use Rattle.hv_basic.proofs.signed_sets.gather.Given as goal

abbrev pub invariant-loop-leaf : goal.invariant-loop-leaf
invariant-loop-leaf l = record {
  gathered : (lines : List Line) → All (IsLeafRead lines) l.leaves
      → AreGathered lines (take l.leaf-index (places l.leaves)) l.on_left l.after
      l.fn.into.items l.into.items;
  others : (lines : List Line) → All (IsLeafRead lines) l.leaves
      → AreOthers lines (take l.leaf-index (places l.leaves)) l.others;
}
