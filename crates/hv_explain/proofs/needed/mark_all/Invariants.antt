use Rattle.std.proofs.Common.{◌≡◌, length, take}
use Rattle.hv_explain.specs.Working.Marks.{mark_all}
use Rattle.hv_explain.proofs.needed.mark_all.Given as goal

abbrev pub invariant-loop-id : goal.invariant-loop-id
invariant-loop-id l = record {
  size : length l.marks.items ≡ length l.fn.marks.items;
  done : l.marks.items ≡ mark_all l.fn.marks.items (take l.id-index l.ids);
}
