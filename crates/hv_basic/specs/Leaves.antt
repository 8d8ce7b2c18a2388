-- The leaves that were found in a set, and what was read of each.
use Rattle.std.specs.Prelude.{◌≡◌, ◌<◌, ℕ, List, Option, Some, IfSome, MatchOption, map}
use Rattle.hv_lines.specs.Literals.{IsLiteral}
use Rattle.hv_lines.specs.Numbering.{expr_at, expr_count}
use Rattle.hv_lines.specs.Shapes.{IsLiteralOf, family_of}
use Rattle.hv_lines.specs.declared.formula_family.FormulaFamily.{FormulaFamily}
use Rattle.hv_lines.specs.declared.line.Expr.{Expr}
use Rattle.hv_lines.specs.declared.line.Line.{Line}
use Rattle.hv_basic.specs.declared.signed_sets.Leaf.{Leaf}

-- the identifiers of the leaves
abbrev pub places : List Leaf → List ℕ
places leaves = map (λ leaf. leaf.place) leaves

-- this is the family of the set's formula; constants have none
abbrev pub IsItsFamily : List Line → ℕ → Option FormulaFamily → Type 0
IsItsFamily lines set family =
    (expr : Expr) × (expr_at lines set ≡ Some expr) × (family ≡ family_of expr)

-- what was read of the leaf: the literal that it is, if it is one, and the family of that literal's
-- formula or constant, which has a line
pub record IsLeafRead (lines : List Line) (leaf : Leaf) : Type 0 where
  pub is : MatchOption leaf.literal (IsLiteral lines leaf.place → ⊥)
      (λ literal. IsLiteralOf lines leaf.place literal.set literal.is_plain)
  pub family : IfSome leaf.literal (λ literal. IsItsFamily lines literal.set leaf.family)
  pub below : IfSome leaf.literal (λ literal. literal.set < expr_count lines)
