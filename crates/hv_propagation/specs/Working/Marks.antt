-- How many atoms are open.
use Rattle.std.specs.Prelude.{◌==◌, ℕ, List}
use Rattle.std.specs.List.{count_by}

-- how many atoms nothing is known of
abbrev pub unknown_in : List ℕ → ℕ
unknown_in marks = count_by (λ mark. mark == 0) marks
