use Rattle.std.proofs.Common.{◌≡◌, ℕ, ◌<◌, Option, Some}
use Rattle.std.specs.List.{slice_get}
use Rattle.hv_task.specs.Strips.{atoms}
use Rattle.hv_sets.specs.Query.{is_clash}
use Rattle.hv_sets.specs.Room.{KeepsLengths}
use Rattle.hv_lines.specs.Verdicts.{DecidesNothing}
use Rattle.hv_bdd.specs.Live.{LivePass}
use Rattle.hv_bdd.specs.Nodes.{in_node}
use Rattle.hv_basic.specs.Working.Asked.{with_action}
use Rattle.hv_basic.proofs.node_walk.find_all.Given as goal

abbrev pub invariant-loop-action : goal.invariant-loop-action
invariant-loop-action l = record {
  same : l.inquiry ≡ l.fn.inquiry;
  lengths : KeepsLengths l.fn.scratch l.scratch;
  positive : l.query.positive ≡ l.fn.query.positive;
  negative : l.query.negative ≡ l.fn.query.negative;
  settled : (place : ℕ) (action : Option ℕ) → place < l.action-index
      → slice_get l.actions place ≡ Some action
      → DecidesNothing (λ q. LivePass l.fn.inquiry.list l.fn.inquiry.task q l.budget)
      (is_clash l.fn.inquiry.task (in_node l.fn.inquiry.list)) (atoms l.fn.inquiry.task)
      (with_action l.fn.query action);
}
