use Rattle.std.proofs.Common.{◌≤◌, length}
use Rattle.hv_indexes.proofs.partners.after_last_pair.Given as goal

abbrev pub invariant-loop-place : goal.invariant-loop-place
invariant-loop-place l = l.place ≤ length l.clauses

abbrev pub decreases-loop-place : goal.decreases-loop-place
decreases-loop-place l = l.place
