use Rattle.std.proofs.Common.{◌<◌, ◌≤◌, ◌+◌, ◌⊎◌, ℕ, length, get_or}
use Rattle.hv_sets.specs.declared.literal.Literal.{Literal}
use Rattle.hv_propagation.specs.declared.watched.ScanState.TheVariants as T
use Rattle.hv_propagation.specs.Working.Scan.{IsSeenIn, IsScanState}
use Rattle.hv_propagation.specs.Trail.{marks_of}
use Rattle.hv_propagation.proofs.watched.search.Given as goal

abbrev pub invariant-loop-step : goal.invariant-loop-step
invariant-loop-step l = record {
  scan_state : IsScanState (T.Left l.seen) l.effect (marks_of l.marks) l.clause;
  passed : (p : ℕ) (d : Literal) → p < length l.clause
      → (l.from ≤ p × p < l.from + l.step) ⊎ (p + length l.clause < l.from + l.step)
      → IsSeenIn (T.Left l.seen) l.effect (marks_of l.marks) (get_or l.clause p d);
}
