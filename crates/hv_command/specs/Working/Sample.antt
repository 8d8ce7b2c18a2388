-- Working definitions beside those of `Sample`: for private contracts and proofs.
use Rattle.std.specs.Prelude.{◌≡◌, List}
use Rattle.hv_sets.specs.declared.literal.Literal.{Literal}
use Rattle.hv_lines.specs.declared.line.Line.{Line}
use Rattle.hv_reach.specs.Written.{horn_proof}

-- the lines are those of a proof by a Horn formula
abbrev pub IsHornProof : List Line → Type 0
IsHornProof lines = (clauses : List (List Literal)) × (lines ≡ horn_proof clauses)
