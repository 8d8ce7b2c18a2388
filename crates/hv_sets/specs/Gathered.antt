-- Lists that are put together item by item.
use Rattle.std.specs.Prelude.{List}

-- the lists that are whole, and the items of the one that is begun
pub record Gathered (A : Type 0) : Type 0 where
  pub whole : List (List A)
  pub begun : List A
