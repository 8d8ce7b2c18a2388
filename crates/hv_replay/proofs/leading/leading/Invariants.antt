use Rattle.hv_replay.specs.Working.Leading.{HasLog, IsOpenPart}
use Rattle.hv_replay.proofs.leading.leading.Given as goal

abbrev pub invariant-loop : goal.invariant-loop
invariant-loop l = record { sets : HasLog l.log l.sets; part : IsOpenPart l.task l.log l.part }
