use Rattle.std.proofs.Common.{◌≡◌, ◌<◌, ℕ, true, length, take}
use Rattle.std.specs.List.{Contains}
use Rattle.hv_task.specs.State.{has_atom}
use Rattle.hv_sets.specs.Names.{AsksAbout}
use Rattle.hv_sets.specs.declared.operand.Operand.{Operand}
use Rattle.hv_sets.specs.declared.operand.Which.TheVariants as W
use Rattle.hv_explicit.proofs.named_sets.put_flags.Given as goal

abbrev pub invariant-loop-operand : goal.invariant-loop-operand
invariant-loop-operand l = record {
  only : (p : ℕ) → has_atom l.flags p ≡ true → AsksAbout l.operands (W.Set p) l.after;
  put : (o : Operand) (p : ℕ) → Contains (take l.operand-index l.operands) o → o.after ≡ l.after
      → o.which ≡ W.Set p → p < length l.flags → has_atom l.flags p ≡ true;
}
