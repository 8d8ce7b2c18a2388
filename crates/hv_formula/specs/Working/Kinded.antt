-- Working definitions beside those of `Kinded`: for private contracts and proofs.
use Rattle.std.specs.Prelude.{List}
use Rattle.std.specs.List.{All}
use Rattle.hv_sets.specs.declared.literal.Literal.{Literal}
use Rattle.hv_propagation.specs.Clauses.{AreClauses}
use Rattle.hv_formula.specs.Clausal.{FormulaState}

-- each clause is of the kind and over the atoms of the task
pub record IsKinded (IsOf : List Literal → Type 0) (formula : FormulaState) : Type 0 where
  pub of_kind : All IsOf formula.clauses
  pub below : AreClauses formula.atoms formula.clauses
