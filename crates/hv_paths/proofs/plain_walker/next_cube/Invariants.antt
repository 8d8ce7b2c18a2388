use Rattle.std.proofs.Common.{◌≡◌, length}
use Rattle.hv_paths.specs.Along.{cubes_of}
use Rattle.hv_paths.proofs.plain_walker.next_cube.Given as goal

-- no cube was passed over
abbrev pub invariant-loop : goal.invariant-loop
invariant-loop g l =
    (g.R.Outside.stands_outside l.set l.cursor)
    × (cubes_of (g.R.Outside.outside_left l.fn.set l.fn.cursor)
    ≡ cubes_of (g.R.Outside.outside_left l.set l.cursor))

abbrev pub decreases-loop : goal.decreases-loop
decreases-loop g l = length (g.R.Outside.outside_left l.set l.cursor)
