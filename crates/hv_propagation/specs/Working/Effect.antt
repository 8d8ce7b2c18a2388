-- Marks that are written anew.
use Rattle.std.specs.Prelude.{ℕ, Bool, List, [], ◌∷◌, slice_set, true, false, replicate}
use Rattle.hv_propagation.specs.Marks.{mark_for}

-- the marks with each of these atoms marked as in (true) or out (false)
abbrev pub overwrite : Bool → List ℕ → List ℕ → List ℕ
overwrite value [] marks = marks
overwrite value (atom ∷ atoms) marks = overwrite value atoms (slice_set marks atom (mark_for value))

-- the effect of adding these atoms, and deleting those that aren't added, as marks of so many atoms
abbrev pub effect_of : ℕ → List ℕ → List ℕ → List ℕ
effect_of atoms add del = overwrite true add (overwrite false del (replicate atoms 0))
