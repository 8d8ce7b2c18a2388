use Rattle.std.proofs.Common.{◌≡◌, Bool, List, length, take}
use Rattle.hv_paths.proofs.meeting.assume_rest.Given as goal

-- what is assumed is the cube up to here
abbrev pub invariant-loop-place : goal.invariant-loop-place
invariant-loop-place g l =
    (length (g.A.Asker.assumed l.asked) ≡ l.place)
    × (g.A.Asker.assumed l.asked ≡ take (length (g.A.Asker.assumed l.asked)) l.path)
    × (g.A.Asker.atoms l.asked ≡ g.A.Asker.atoms l.fn.asked)
    × ((s : List Bool) → g.A.Asker.wanted l.asked s ≡ g.A.Asker.wanted l.fn.asked s)
    × (g.A.Asker.stands l.asked)
