use Rattle.std.proofs.Common.{◌≡◌, length, drop}
use Rattle.hv_task.specs.State.{put_all}
use Rattle.hv_task.proofs.state.State.put_all.Given as goal

abbrev pub invariant-loop-atom : goal.invariant-loop-atom
invariant-loop-atom l = record {
  rest : put_all l.value (drop l.atom-index l.atoms) l.self ≡ put_all l.value l.atoms l.fn.self;
  size : length l.self ≡ length l.fn.self;
}
