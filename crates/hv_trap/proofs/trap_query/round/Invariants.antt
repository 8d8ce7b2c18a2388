use Rattle.std.proofs.Common.{◌≡◌, ◌<◌, ◌≤◌, ℕ, true, false, length}
use Rattle.hv_trap.specs.Working.Asking.{IsAsking, clauses_asked}
use Rattle.hv_trap.specs.Trap.{Stays}
use Rattle.hv_trap.specs.Working.Trap.{EncloseTrap}
use Rattle.hv_trap.proofs.trap_query.round.Given as goal

abbrev pub invariant-loop-action : goal.invariant-loop-action
invariant-loop-action l = record {
  asking : IsAsking l.task l.asking;
  formula : clauses_asked l.asking ≡ l.fn.clauses;
  enclose : EncloseTrap l.task l.clauses;
  few : length l.clauses ≤ length l.fn.clauses;
  fewer : l.moved ≡ true → length l.clauses < length l.fn.clauses;
  same : l.moved ≡ false → l.clauses ≡ l.fn.clauses;
  still : l.moved ≡ false → (number : ℕ) → number < l.action → Stays l.task l.fn.clauses number;
}
