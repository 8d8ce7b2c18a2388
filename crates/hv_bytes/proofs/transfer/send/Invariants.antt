use Rattle.std.proofs.Common.{◌≤◌, ◌-◌, length, take}
use Rattle.std.specs.Io.KnownBytes.{Appends}
use Rattle.hv_bytes.proofs.transfer.send.Given as goal

-- the bytes before the place were appended, and the count never fell
abbrev pub invariant-sending : goal.invariant-sending
invariant-sending g l =
    (l.at ≤ length l.bytes) × Appends (g.K.Sink.taken l.initial.sink) (g.K.Sink.taken l.sink)
    (take l.at l.bytes) × (g.K.Sink.faults l.initial.sink ≤ g.K.Sink.faults l.sink)

abbrev pub decreases-sending : goal.decreases-sending
decreases-sending g l = length l.bytes - l.at
