use Rattle.std.proofs.Common.{◌≡◌, List, length}
use Rattle.hv_task.specs.Strips.{atoms}
use Rattle.hv_sets.specs.declared.literal.Literal.{Literal}
use Rattle.hv_trap.specs.Working.Marks.{AreMarkedLeft}
use Rattle.hv_trap.specs.Working.Quick.{ArePairs}
use Rattle.hv_trap.specs.Working.Room.{HasStates}
use Rattle.hv_trap.specs.Working.Trap.{EncloseTrap}
use Rattle.hv_trap.proofs.sweep.mark_all.Given as goal

abbrev pub invariant-loop : goal.invariant-loop
invariant-loop l = record {
  room : HasStates l.task l.room;
  pairs : l.room.quick.pairs.items ≡ l.fn.room.quick.pairs.items;
  marks : length l.room.left.items ≡ length l.room.quick.pairs.items;
  left : (clauses : List (List Literal)) → EncloseTrap l.task clauses
      → ArePairs (atoms l.task) clauses l.fn.room.quick.pairs.items
      → AreMarkedLeft l.task clauses l.fn.room.left.items → AreMarkedLeft l.task clauses l.room.left.items;
}
