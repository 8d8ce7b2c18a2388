-- Orders of atoms, kept by place and by atom.
use Rattle.std.specs.Prelude.{◌≡◌, ◌<◌, ℕ, List, length, slice_index_or}
use Rattle.hv_bdd.specs.Order.{position}

-- for each atom the second list has its place in the first
pub record AreInverse (order places : List ℕ) : Type 0 where
  pub size : length places ≡ length order
  pub place : (a : ℕ) → a < length order → slice_index_or places a 0 ≡ position order a
