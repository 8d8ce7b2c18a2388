-- Which actions of a list are still to be visited.
use Rattle.std.specs.Prelude.{◌≡◌, ◌<◌, ◌≤◌, ℕ, List, length, slice_index}

-- the number is in the list, at this place or later
abbrev pub IsInRest : List ℕ → ℕ → ℕ → Type 0
IsInRest numbers from k =
    (j : ℕ) × (from ≤ j) × (j < length numbers) × (slice_index numbers j ≡ k)
