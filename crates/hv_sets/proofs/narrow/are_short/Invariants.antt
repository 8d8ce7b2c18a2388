use Rattle.std.proofs.Common.{◌≡◌, take}
use Rattle.hv_sets.specs.Working.KeptStates.{AreShort}
use Rattle.hv_sets.specs.Working.Pieces.{last_end}
use Rattle.hv_sets.proofs.narrow.are_short.Given as goal

abbrev pub invariant-loop-end : goal.invariant-loop-end
invariant-loop-end l =
    AreShort 0 (take l.end-index l.ends) × (l.start ≡ last_end 0 (take l.end-index l.ends))
