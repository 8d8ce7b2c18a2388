use Rattle.std.proofs.Common.{◌≡◌, ◌<◌, ◌⊎◌, ℕ, Some, get_or, slice_get}
use Rattle.std.specs.List.{Contains}
use Rattle.hv_task.specs.Strips.{Strips}
use Rattle.hv_task.specs.declared.action.Action.{Action}
use Rattle.hv_sets.specs.declared.literal.Literal.{Literal}
use Rattle.hv_basic.specs.ChangeRows.{AreChangeRows}
use Rattle.hv_basic.specs.Working.Framed.{CanTurn}
use Rattle.hv_basic.proofs.turned.put_clause.Given as goal

abbrev pub invariant-loop-literal : goal.invariant-loop-literal
invariant-loop-literal l = record {
  kept : (k : ℕ) → Contains l.fn.found k → Contains l.found k;
  has : (j : ℕ) (d : Literal) → j < l.literal-index → (task : Strips) (number : ℕ)
      (action : Action) → AreChangeRows task l.changes → slice_get task.actions number ≡ Some action
      → CanTurn l.value (get_or l.clause j d) action → number < l.actions
      → Contains l.found number;
  below : (k : ℕ) → Contains l.found k → Contains l.fn.found k ⊎ (k < l.actions);
}
