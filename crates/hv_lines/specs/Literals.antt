-- Formulas and literals among the sets of a proof.
use Rattle.std.specs.Prelude.{◌≡◌, ◌⊎◌, ℕ, List, Some}
use Rattle.hv_lines.specs.Numbering.{expr_at}
use Rattle.hv_lines.specs.declared.line.Expr.{Expr}
use Rattle.hv_lines.specs.declared.line.Expr.TheVariants as E
use Rattle.hv_lines.specs.declared.line.Line.{Line}

-- a formula: a list of clauses, a list of states or a node
abbrev pub IsFormula : Expr → Type 0
IsFormula (E.Constant constant) = ⊥
IsFormula (E.Horn clauses) = Unit {0}
IsFormula (E.Dual clauses) = Unit {0}
IsFormula (E.Two clauses) = Unit {0}
IsFormula (E.States states) = Unit {0}
IsFormula (E.Node node) = Unit {0}
IsFormula (E.Not set) = ⊥
IsFormula (E.And left right) = ⊥
IsFormula (E.Or left right) = ⊥
IsFormula (E.After set acts) = ⊥
IsFormula (E.Before set acts) = ⊥

-- one of the sets that every task has
abbrev pub IsConstantExpr : Expr → Type 0
IsConstantExpr (E.Constant constant) = Unit {0}
IsConstantExpr (E.Horn clauses) = ⊥
IsConstantExpr (E.Dual clauses) = ⊥
IsConstantExpr (E.Two clauses) = ⊥
IsConstantExpr (E.States states) = ⊥
IsConstantExpr (E.Node node) = ⊥
IsConstantExpr (E.Not set) = ⊥
IsConstantExpr (E.And left right) = ⊥
IsConstantExpr (E.Or left right) = ⊥
IsConstantExpr (E.After set acts) = ⊥
IsConstantExpr (E.Before set acts) = ⊥

-- a formula or a constant
abbrev pub IsPlainExpr : Expr → Type 0
IsPlainExpr expr = IsFormula expr ⊎ IsConstantExpr expr

-- the set is a formula or a constant
abbrev pub IsPlainSet : List Line → ℕ → Type 0
IsPlainSet lines set = (expr : Expr) × (expr_at lines set ≡ Some expr) × IsPlainExpr expr

-- the set is the negation of a formula or of a constant
abbrev pub IsNegatedSet : List Line → ℕ → Type 0
IsNegatedSet lines set = (inner : ℕ) × (expr_at lines set ≡ Some (E.Not inner))
    × IsPlainSet lines inner

-- the set is a literal: a formula or a constant, or the negation of one
abbrev pub IsLiteral : List Line → ℕ → Type 0
IsLiteral lines set = IsPlainSet lines set ⊎ IsNegatedSet lines set
