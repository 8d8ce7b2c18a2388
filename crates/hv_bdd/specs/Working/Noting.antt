-- Atoms that are noted at places, one after the other.
use Rattle.std.specs.Prelude.{◌≡◌, ◌<◌, ◌≤◌, ◌++◌, ◌⊎◌, ℕ, List, Option, length, take, option_map}
use Rattle.std.specs.Prelude.{slice_index}
use Rattle.hv_bdd.specs.OrderLine.{named_atoms}

-- so many places are filled: at each of them stands an atom, and of each atom one of the places at
-- which it stands is noted, or that it stands at none
pub record AreNoted (order places : List ℕ) (count : ℕ) : Type 0 where
  pub size : length places ≡ length order
  pub within : count ≤ length order
  pub atoms : (v : ℕ) → v < count → slice_index order v < length order
  pub noted : (v : ℕ) → v < count → slice_index places (slice_index order v) < count
  pub others : (a : ℕ) → a < length order → (slice_index places a ≡ length order)
      ⊎ ((slice_index places a < count) × (slice_index order (slice_index places a) ≡ a))

-- the atoms at so many places, and those that fields name behind them
abbrev pub named_behind : List ℕ → ℕ → List (List ℕ) → Option (List ℕ)
named_behind order count fields =
    option_map (λ ns. take count order ++ ns) (named_atoms (length order) fields)
