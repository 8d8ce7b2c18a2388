use Rattle.std.proofs.Common.{◌≡◌, ◌+◌, ◌*◌, ◌^◌, ◌≤◌, length}
use Rattle.hv_task.specs.Strips.{atoms}
use Rattle.hv_bound.specs.Bounded.{all_copies}
use Rattle.hv_bound.proofs.Copying.{copies_from}
use Rattle.hv_bound.proofs.bound.count_all_copies.Given as goal

abbrev pub invariant-loop-number : goal.invariant-loop-number
invariant-loop-number l = record {
  counted : l.count + length (copies_from (atoms l.task) l.most l.task.actions l.number)
      ≡ length (all_copies (atoms l.task) l.most l.task.actions);
  small : l.count ≤ l.number * 2 ^ 32;
}
