use Rattle.std.proofs.Common.{◌≡◌, ℕ, Bool, List, take}
use Rattle.hv_sets.specs.Cubes.{SpeakBelow}
use Rattle.hv_sets.specs.Truth.{in_cube}
use Rattle.hv_paths.proofs.filling.fill_along.Given as goal

-- the cube is that of the literals up to here
abbrev pub invariant-loop-literal : goal.invariant-loop-literal
invariant-loop-literal l =
    ((s : List Bool) → in_cube l.cube s ≡ in_cube (take l.literal-index l.literals) s)
    × ((n : ℕ) → SpeakBelow n l.literals → SpeakBelow n l.cube)
