use Rattle.std.proofs.Common.{◌≡◌, length, drop}
use Rattle.hv_task.specs.State.{put_all}
use Rattle.hv_basic.proofs.exclusions.put_atoms.Given as goal

abbrev pub invariant-loop-atom : goal.invariant-loop-atom
invariant-loop-atom l = record {
  rest : put_all l.value (drop l.atom-index l.atoms) l.able ≡ put_all l.value l.atoms l.fn.able;
  size : length l.able ≡ length l.fn.able;
}
