-- Rows of numbers.
use Rattle.std.specs.Prelude.{◌≡◌, ◌++◌, ℕ, Bool, false, List, [], ◌∷◌, Option, None, Some}
use Rattle.std.specs.Prelude.{slice_get}
use Rattle.std.specs.List.{Contains}
use Rattle.std.specs.Global.{Vec}
use Rattle.hv_task.specs.State.{AreBelow, names_atom}

-- the number is in the row of this place, if there is one
abbrev pub IsInRow : List (Vec ℕ) → ℕ → ℕ → Type 0
IsInRow rows place number =
    (row : Vec ℕ) → slice_get rows place ≡ Some row → Contains row.items number

-- each number of each row is below the bound
abbrev pub RowsBelow : ℕ → List (Vec ℕ) → Type 0
RowsBelow bound rows =
    (place : ℕ) (row : Vec ℕ) → slice_get rows place ≡ Some row → AreBelow bound row.items

-- the rows after the number was put at the end of the row of this place: that row has it behind
-- what it had, and each other stands as it was
pub record HasEntered (place number : ℕ) (before after : List (Vec ℕ)) : Type 0 where
  pub was : Vec ℕ
  pub row : Vec ℕ
  pub had : slice_get before place ≡ Some was
  pub has : slice_get after place ≡ Some row
  pub items : row.items ≡ was.items ++ number ∷ []
  pub others : (other : ℕ) → (place ≡ other → ⊥) → slice_get after other ≡ slice_get before other

-- the number is in the row, if there is one
abbrev pub in_found_row : Option (Vec ℕ) → ℕ → Bool
in_found_row None number = false
in_found_row (Some row) number = names_atom row.items number

-- there is a row of this place, and the number is in it
abbrev pub in_row : List (Vec ℕ) → ℕ → ℕ → Bool
in_row rows number place = in_found_row (slice_get rows place) number
