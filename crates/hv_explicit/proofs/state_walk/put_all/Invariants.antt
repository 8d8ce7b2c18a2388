use Rattle.std.proofs.Common.{◌≡◌, length, drop}
use Rattle.hv_task.specs.State.{put_all}
use Rattle.hv_explicit.proofs.state_walk.put_all.Given as goal

abbrev pub invariant-loop-atom : goal.invariant-loop-atom
invariant-loop-atom l = record {
  rest : put_all l.value (drop l.atom-index l.atoms) l.state ≡ put_all l.value l.atoms l.fn.state;
  size : length l.state ≡ length l.fn.state;
}
