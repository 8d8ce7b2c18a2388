use Rattle.std.proofs.Common.{◌<◌, ℕ, [], get_or}
use Rattle.hv_sets.specs.declared.literal.Literal.{Literal}
use Rattle.hv_propagation.specs.declared.watched.ScanState.TheVariants as T
use Rattle.hv_propagation.specs.Working.Scan.{IsSeenIn, IsScanState}
use Rattle.hv_propagation.specs.Trail.{marked}
use Rattle.hv_propagation.proofs.unit_rounds.scan.Given as goal

abbrev pub invariant-loop-place : goal.invariant-loop-place
invariant-loop-place l = record {
  scan_state : IsScanState (T.Left l.seen) [] (marked l.atoms l.literals) l.clause;
  passed : (p : ℕ) (d : Literal) → p < l.place
      → IsSeenIn (T.Left l.seen) [] (marked l.atoms l.literals) (get_or l.clause p d);
}
