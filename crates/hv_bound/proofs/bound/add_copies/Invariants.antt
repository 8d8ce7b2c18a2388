use Rattle.std.proofs.Common.{◌≡◌, ◌++◌}
use Rattle.hv_task.specs.Strips.{atoms}
use Rattle.hv_bound.specs.Bounded.{all_copies}
use Rattle.hv_bound.proofs.Copying.{copies_from}
use Rattle.hv_bound.proofs.bound.add_copies.Given as goal

abbrev pub invariant-loop-number : goal.invariant-loop-number
invariant-loop-number l = record {
  same : l.made ≡ record l.fn.made { actions = l.made.actions };
  rest : l.made.actions ++ copies_from (atoms l.task) l.most l.task.actions l.number
      ≡ all_copies (atoms l.task) l.most l.task.actions;
}
