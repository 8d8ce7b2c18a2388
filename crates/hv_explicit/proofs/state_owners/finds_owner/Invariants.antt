use Rattle.std.proofs.Common.{◌≤◌, length}
use Rattle.hv_explicit.proofs.state_owners.finds_owner.Given as goal

abbrev pub invariant-loop : goal.invariant-loop
invariant-loop g l = l.rest ≤ length l.owners.codes
