use Rattle.std.proofs.Common.{◌≤◌}
use Rattle.helve.proofs.file_sink.FileSinkSink.write.Given as goal

abbrev pub invariant-loop : goal.invariant-loop
invariant-loop l = l.initial.self.faults.count ≤ l.self.faults.count
