-- Clauses over the atoms of a task.
use Rattle.std.specs.Prelude.{ℕ, List}
use Rattle.std.specs.List.{All}
use Rattle.hv_sets.specs.declared.literal.Literal.{Literal}
use Rattle.hv_sets.specs.Cubes.{SpeakBelow}

-- the clauses speak of atoms below this number alone
abbrev pub AreClauses : ℕ → List (List Literal) → Type 0
AreClauses atoms clauses = All (λ clause. SpeakBelow atoms clause) clauses
