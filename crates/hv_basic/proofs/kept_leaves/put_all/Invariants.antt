use Rattle.std.proofs.Common.{List, take}
use Rattle.std.specs.List.{All}
use Rattle.hv_lines.specs.declared.line.Line.{Line}
use Rattle.hv_basic.specs.Leaves.{IsLeafRead, places}
use Rattle.hv_basic.specs.Working.Sharing.{AreLeavesWith}
use Rattle.hv_basic.proofs.kept_leaves.put_all.Given as goal

abbrev pub invariant-loop-leaf : goal.invariant-loop-leaf
invariant-loop-leaf l = record {
  places : AreLeavesWith (places l.fn.into.items) (take l.leaf-index (places l.more))
      (places l.into.items);
  read : (lines : List Line) → All (IsLeafRead lines) l.fn.into.items
      → All (IsLeafRead lines) l.more → All (IsLeafRead lines) l.into.items;
}
