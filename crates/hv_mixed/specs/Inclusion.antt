-- One set of states is within another exactly where their difference is empty.
use Rattle.std.specs.Prelude.{◌&&◌, Bool, not, List}

-- the states that are not in the set
abbrev pub complement : (List Bool → Bool) → List Bool → Bool
complement has state = not (has state)

-- the states that are in the left set and not in the right one
abbrev pub difference : (List Bool → Bool) → (List Bool → Bool) → List Bool → Bool
difference left right state = left state && not (right state)
