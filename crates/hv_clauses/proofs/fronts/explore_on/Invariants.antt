use Rattle.std.proofs.Common.{◌≡◌, ◌-◌}
use Rattle.hv_clauses.specs.Working.Front.{IsAdvanced, block_length}
use Rattle.hv_propagation.specs.Trail.{Grows}
use Rattle.hv_clauses.proofs.fronts.explore_on.Given as goal

abbrev pub invariant-loop-fixed : goal.invariant-loop-fixed
invariant-loop-fixed g l = record {
  block : l.block ≡ block_length l.problem (l.count - l.fixed);
  advanced : IsAdvanced l.problem (l.count - l.fixed) l.number l.next l.marks;
  grown : Grows l.fn.marks l.marks;
}
