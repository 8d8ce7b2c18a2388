use Rattle.std.proofs.Common.{◌≤◌}
use Rattle.helve.proofs.file_shelf.read_some.Given as goal

abbrev pub invariant-loop : goal.invariant-loop
invariant-loop l = l.initial.faults.count ≤ l.faults.count
