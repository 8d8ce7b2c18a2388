use Rattle.std.proofs.Common.{◌≡◌, ◌-◌, length, take}
use Rattle.hv_bdd.specs.Paths.{IsStack, last_of, left_of, paths}
use Rattle.hv_bdd.proofs.walk.descend.Given as goal

abbrev pub invariant-loop-last : goal.invariant-loop-last
invariant-loop-last l = record {
  stack : IsStack l.nodes l.path.items;
  last : last_of l.path.items ≡ l.last;
  front : take (length l.fn.path.items) l.path.items ≡ l.fn.path.items;
  other : l.last ≡ 1 - l.end → ⊥;
  left : left_of l.nodes l.end l.path.items (paths l.nodes l.end l.last)
      ≡ left_of l.nodes l.end l.fn.path.items (paths l.nodes l.end (last_of l.fn.path.items));
}

abbrev pub decreases-loop-last : goal.decreases-loop-last
decreases-loop-last l = l.last
