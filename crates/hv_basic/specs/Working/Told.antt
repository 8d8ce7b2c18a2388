-- Statements that what is kept of their right sides tells to be true.
use Rattle.std.specs.Prelude.{◌≡◌, ◌≤◌, ◌+◌, ◌⊎◌, ℕ, Bool, true, List, Option, Some, length}
use Rattle.std.specs.BTreeSet.{BTreeSet}
use Rattle.std.specs.List.{Contains}
use Rattle.hv_sets.specs.declared.literal.Literal.{Literal}
use Rattle.hv_lines.specs.Numbering.{expr_at}
use Rattle.hv_lines.specs.Shapes.{most_operands}
use Rattle.hv_lines.specs.declared.formula_family.FormulaFamily.{FormulaFamily}
use Rattle.hv_lines.specs.declared.line.Expr.{Expr}
use Rattle.hv_lines.specs.declared.line.Line.{Line}
use Rattle.hv_basic.specs.Sharing.{NamesLiteral, own_clauses}
use Rattle.hv_basic.specs.Working.Gathered.{HaveTheirFamilies}
use Rattle.hv_basic.specs.Working.Sharing.{IsFamilyBeside, IsFamilyWith, IsInClauses}
use Rattle.hv_basic.specs.declared.shared.Kept.{Kept}
use Rattle.hv_basic.specs.declared.signed_sets.Asking.{Asking}

-- the ways to choose clauses are told, and within the budget, and there aren't more sets than a
-- statement can have
pub record IsWithinLimits (kept : Kept) (askings : List Asking) (budget : ℕ) : Type 0 where
  pub ways : ℕ
  pub told : kept.ways ≡ Some ways
  pub within : ways ≤ budget
  pub few : length askings + (length kept.negations.items + length kept.question.negative.items)
      ≤ most_operands

-- the formulas on both sides are of the family, or there are none
pub record AreOfFamily (kept : Kept) (askings : List Asking) (family : FormulaFamily) : Type 0
  where
    pub right : Option FormulaFamily
    pub of_right : IsFamilyWith kept.family kept.negated right
    pub of_all : (lines : List Line) → HaveTheirFamilies lines askings
        → IsFamilyBeside lines askings right family

-- the formulas on both sides are of one family, over which the ways to choose clauses are the cost
pub record AskOneFamily (kept : Kept) (askings : List Asking) : Type 0 where
  pub family : FormulaFamily
  pub are : AreOfFamily kept askings family
  pub in_clauses : IsInClauses family

-- some clause of the set has only literals that are enough
pub record HasEnough (lines : List Line) (set : ℕ) (literals : BTreeSet (ℕ × Bool)) : Type 0 where
  pub expr : Expr
  pub at : expr_at lines set ≡ Some expr
  pub clauses : List (List Literal)
  pub of : own_clauses expr ≡ Some clauses
  pub clause : List Literal
  pub among : Contains clauses clause
  pub enough : (literal : Literal) → Contains clause literal → NamesLiteral literals literal

-- the right side has the set, or the set has a clause each of whose literals is enough
abbrev pub IsOwn : List Line → Kept → ℕ → Type 0
IsOwn lines kept set =
    Contains kept.question.negative.items (set, kept.after) ⊎ HasEnough lines set kept.enough

-- the left side asks for such a set at the time of the right side
abbrev pub HasOwn : List Line → Kept → List Asking → Type 0
HasOwn lines kept askings = (own : Asking) × Contains askings own × (own.after ≡ kept.after)
    × IsOwn lines kept own.set

-- the statement is true, by a set that its left side asks for, and at a cost within the budget
pub record IsToldTrue (lines : List Line) (kept : Kept) (askings : List Asking)
    (budget : ℕ) : Type 0
  where
    pub affordable : IsWithinLimits kept askings budget
    pub one_family : AskOneFamily kept askings
    pub positive : (asking : Asking) → Contains askings asking → asking.positive ≡ true
    pub own : HasOwn lines kept askings
