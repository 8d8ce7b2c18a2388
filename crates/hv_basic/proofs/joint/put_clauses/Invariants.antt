use Rattle.std.proofs.Common.{◌≡◌, ◌++◌, take}
use Rattle.hv_basic.proofs.joint.put_clauses.Given as goal

abbrev pub invariant-loop-place : goal.invariant-loop-place
invariant-loop-place l = l.into ≡ l.initial.into ++ take l.place l.clauses
