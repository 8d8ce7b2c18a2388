-- Working definitions beside those of `Cubes`: for private contracts and proofs.
use Rattle.std.specs.Prelude.{◌<◌, ◌≤◌, ℕ, List, length, slice_index}

-- the atoms before this place are less than the atom, and the others are not
abbrev pub IsFirstUpto : List ℕ → ℕ → ℕ → Type 0
IsFirstUpto atoms atom place =
    (place ≤ length atoms) × ((k : ℕ) → k < place → slice_index atoms k < atom)
    × ((k : ℕ) → place ≤ k → k < length atoms → atom ≤ slice_index atoms k)
