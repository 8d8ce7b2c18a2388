use Rattle.std.proofs.Common.{◌≡◌, ◌-◌, drop, length}
use Rattle.hv_basic.specs.Cases.{lines_in}
use Rattle.hv_basic.specs.Leaves.{places}
use Rattle.hv_basic.specs.Sharing.{IsPlainSide}
use Rattle.hv_basic.specs.Working.Sharing.{AreAddedTo}
use Rattle.hv_basic.proofs.rights.add_all.Given as goal

abbrev pub invariant-loop-count : goal.invariant-loop-count
invariant-loop-count l = record {
  side : IsPlainSide (lines_in l.case) l.kept;
  added : AreAddedTo (drop (length (places l.leaves) - l.count) (places l.leaves)) l.fn.kept l.kept;
  root : l.kept.root ≡ l.fn.kept.root;
  after : l.kept.after ≡ l.fn.kept.after;
}
