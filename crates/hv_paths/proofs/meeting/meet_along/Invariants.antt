use Rattle.std.proofs.Common.{◌≡◌, length, Bool, true, List, take}
use Rattle.hv_sets.specs.Room.{KeepsLengths}
use Rattle.hv_sets.specs.Walks.{IsStateOf, in_cubes}
use Rattle.hv_paths.proofs.meeting.meet_along.Given as goal

-- what is assumed is a prefix of the last cube; what is left is part of the walk, and no state that
-- is looked for is in the part that was done
abbrev pub invariant-loop-kept : goal.invariant-loop-kept
invariant-loop-kept g l =
    (g.A.Asker.assumed l.asked
    ≡ take (length (g.A.Asker.assumed l.asked)) (g.W.Walker.path l.walk))
    × (g.W.Walker.atoms l.walk ≡ g.A.Asker.atoms l.asked)
    × (g.A.Asker.atoms l.asked ≡ g.A.Asker.atoms l.fn.asked)
    × ((s : List Bool) → g.A.Asker.wanted l.asked s ≡ g.A.Asker.wanted l.fn.asked s)
    × ((s : List Bool) → in_cubes (g.W.Walker.left l.walk) s ≡ true
    → in_cubes (g.W.Walker.left l.fn.walk) s ≡ true)
    × ((s : List Bool) → IsStateOf (g.A.Asker.atoms l.fn.asked) s
    → g.A.Asker.wanted l.fn.asked s ≡ true
    → in_cubes (g.W.Walker.left l.fn.walk) s ≡ in_cubes (g.W.Walker.left l.walk) s)
    × (g.A.Asker.stands l.asked)
    × (g.W.Walker.stands l.walk)
    × KeepsLengths l.fn.scratch l.scratch

abbrev pub decreases-loop-kept : goal.decreases-loop-kept
decreases-loop-kept g l = length (g.W.Walker.left l.walk)
