-- The shapes of basic statements: leaves, literals and families.
use Rattle.std.specs.Prelude.{◌≡◌, ◌≤◌, ◌<◌, ◌⊎◌, ◌+◌, ◌↔◌, ℕ, Bool, true, false, not, List, Option}
use Rattle.std.specs.Prelude.{Some, None, length, slice_get}
use Rattle.std.specs.List.{Contains}
use Rattle.hv_lines.specs.Literals.{IsPlainSet, IsLiteral}
use Rattle.hv_lines.specs.Numbering.{expr_at}
use Rattle.hv_lines.specs.declared.formula_family.FormulaFamily.{FormulaFamily}
use Rattle.hv_lines.specs.declared.formula_family.FormulaFamily.TheVariants as F
use Rattle.hv_lines.specs.declared.line.Expr.{Expr}
use Rattle.hv_lines.specs.declared.line.Expr.TheVariants as E
use Rattle.hv_lines.specs.declared.line.Line.{Line}
use Rattle.hv_lines.specs.declared.line.Statement.{Statement}
use Rattle.hv_lines.specs.declared.line.Statement.TheVariants as T
use Rattle.hv_lines.specs.declared.line.Word.{Word}
use Rattle.hv_lines.specs.declared.line.Word.TheVariants as W

-- the two parts of an intersection
abbrev pub and_parts : Expr → Option (ℕ × ℕ)
and_parts (E.And left right) = Some (left, right)
and_parts (E.Constant constant) = None
and_parts (E.Horn clauses) = None
and_parts (E.Dual clauses) = None
and_parts (E.Two clauses) = None
and_parts (E.States states) = None
and_parts (E.Node node) = None
and_parts (E.Not set) = None
and_parts (E.Or left right) = None
and_parts (E.After set by) = None
and_parts (E.Before set by) = None

-- the two parts of a union
abbrev pub or_parts : Expr → Option (ℕ × ℕ)
or_parts (E.Or left right) = Some (left, right)
or_parts (E.Constant constant) = None
or_parts (E.Horn clauses) = None
or_parts (E.Dual clauses) = None
or_parts (E.Two clauses) = None
or_parts (E.States states) = None
or_parts (E.Node node) = None
or_parts (E.Not set) = None
or_parts (E.And left right) = None
or_parts (E.After set by) = None
or_parts (E.Before set by) = None

-- The leaves of a set: those of both its parts where it has two, and otherwise it alone.
pub data IsLeaf (parts : Expr → Option (ℕ × ℕ)) (lines : List Line) : ℕ → ℕ → Type 0 where
  alone : (set : ℕ) (expr : Expr) → expr_at lines set ≡ Some expr → parts expr ≡ None
      → IsLeaf parts lines set set
  of_left : (set left right leaf : ℕ) (expr : Expr) → expr_at lines set ≡ Some expr
      → parts expr ≡ Some (left, right) → IsLeaf parts lines left leaf → IsLeaf parts lines set leaf
  of_right : (set left right leaf : ℕ) (expr : Expr) → expr_at lines set ≡ Some expr
      → parts expr ≡ Some (left, right) → IsLeaf parts lines right leaf
      → IsLeaf parts lines set leaf

-- an intersection leaf of the set
abbrev pub IsAndLeaf : List Line → ℕ → ℕ → Type 0
IsAndLeaf lines set leaf = IsLeaf and_parts lines set leaf

-- a union leaf of the set
abbrev pub IsOrLeaf : List Line → ℕ → ℕ → Type 0
IsOrLeaf lines set leaf = IsLeaf or_parts lines set leaf

-- the set and the action set of a progression
abbrev pub after_parts : Expr → Option (ℕ × ℕ)
after_parts (E.After set acts) = Some (set, acts)
after_parts (E.Constant constant) = None
after_parts (E.Horn clauses) = None
after_parts (E.Dual clauses) = None
after_parts (E.Two clauses) = None
after_parts (E.States states) = None
after_parts (E.Node node) = None
after_parts (E.Not set) = None
after_parts (E.And left right) = None
after_parts (E.Or left right) = None
after_parts (E.Before set acts) = None

-- the set and the action set of a regression
abbrev pub before_parts : Expr → Option (ℕ × ℕ)
before_parts (E.Before set acts) = Some (set, acts)
before_parts (E.Constant constant) = None
before_parts (E.Horn clauses) = None
before_parts (E.Dual clauses) = None
before_parts (E.Two clauses) = None
before_parts (E.States states) = None
before_parts (E.Node node) = None
before_parts (E.Not set) = None
before_parts (E.And left right) = None
before_parts (E.Or left right) = None
before_parts (E.After set acts) = None

-- the step that the word asks for on the left: a progression for `b2`, a regression for `b3`; its
-- set and its action set
abbrev pub asked_step : Word → Expr → Option (ℕ × ℕ)
asked_step W.B2 expr = after_parts expr
asked_step W.B3 expr = before_parts expr
asked_step _ expr = None

-- the leaf is the progression or regression that the word asks for
abbrev pub IsStep : List Line → Word → ℕ → ℕ → ℕ → Type 0
IsStep lines word leaf set acts =
    (expr : Expr) × (expr_at lines leaf ≡ Some expr) × (asked_step word expr ≡ Some (set, acts))

-- The sides of a statement have the shape of the word, with the action set of its step if it has
-- one: every leaf is a literal, but for one on the left, the step, of whose set every intersection
-- leaf is a literal.
abbrev pub HasSides : List Line → Word → ℕ → ℕ → Option ℕ → Type 0
HasSides lines word left right None =
    (word ≡ W.B1)
    × ((leaf : ℕ) → IsAndLeaf lines left leaf → IsLiteral lines leaf)
    × ((leaf : ℕ) → IsOrLeaf lines right leaf → IsLiteral lines leaf)
HasSides lines word left right (Some acts) =
    (step : ℕ) × (set : ℕ) × IsAndLeaf lines left step × IsStep lines word step set acts
    × ((leaf : ℕ) → IsAndLeaf lines left leaf → IsLiteral lines leaf ⊎ (leaf ≡ step))
    × ((leaf : ℕ) → IsAndLeaf lines set leaf → IsLiteral lines leaf)
    × ((leaf : ℕ) → IsOrLeaf lines right leaf → IsLiteral lines leaf)

-- the literal is the formula or constant itself (true), or its negation (false)
abbrev pub IsLiteralOf : List Line → ℕ → ℕ → Bool → Type 0
IsLiteralOf lines leaf set true = (leaf ≡ set) × IsPlainSet lines set
IsLiteralOf lines leaf set false = (expr_at lines leaf ≡ Some (E.Not set)) × IsPlainSet lines set

-- whether the literals beside the step and those on the right are asked about after the action
abbrev pub asks_sides_after : Word → Bool
asks_sides_after W.B2 = true
asks_sides_after _ = false

-- whether the literals of the step are asked about after the action
abbrev pub asks_step_after : Word → Bool
asks_step_after W.B3 = true
asks_step_after _ = false

-- the leaf is on the left, beside the step or in its set, and is asked about after the action
-- or before it
abbrev pub IsLeftLeaf : List Line → Word → ℕ → ℕ → Bool → Type 0
IsLeftLeaf lines word left leaf after =
    (IsAndLeaf lines left leaf × (after ≡ asks_sides_after word))
    ⊎ ((step : ℕ) × (set : ℕ) × (acts : ℕ) × IsAndLeaf lines left step
    × IsStep lines word step set acts × IsAndLeaf lines set leaf × (after ≡ asks_step_after word))

-- the leaf is on the right, and is asked about after the action or before it
abbrev pub IsRightLeaf : List Line → Word → ℕ → ℕ → Bool → Type 0
IsRightLeaf lines word right leaf after =
    IsOrLeaf lines right leaf × (after ≡ asks_sides_after word)

-- The formula or constant is asked about, after the action or before it, with this sign: a literal
-- on the left gives a positive operand and its negation a negative one, and on the right it is the
-- other way round.
abbrev pub IsAsked : List Line → Word → ℕ → ℕ → Bool → ℕ × Bool → Type 0
IsAsked lines word left right positive (set, after) =
    (leaf : ℕ)
    × ((IsLeftLeaf lines word left leaf after × IsLiteralOf lines leaf set positive)
    ⊎ (IsRightLeaf lines word right leaf after × IsLiteralOf lines leaf set (not positive)))

-- the family of a formula; nothing else has one
abbrev pub family_of : Expr → Option FormulaFamily
family_of (E.Constant constant) = None
family_of (E.Horn clauses) = Some F.Horn
family_of (E.Dual clauses) = Some F.Dual
family_of (E.Two clauses) = Some F.Two
family_of (E.States states) = Some F.States
family_of (E.Node node) = Some F.Node
family_of (E.Not set) = None
family_of (E.And left right) = None
family_of (E.Or left right) = None
family_of (E.After set by) = None
family_of (E.Before set by) = None

-- the set is a formula of the family
abbrev pub IsOfFamily : List Line → FormulaFamily → ℕ → Type 0
IsOfFamily lines family set =
    (expr : Expr) × (expr_at lines set ≡ Some expr) × (family_of expr ≡ Some family)

-- the set is a constant, or a formula of the family
abbrev pub IsWithinFamily : List Line → FormulaFamily → ℕ → Type 0
IsWithinFamily lines family set =
    (expr : Expr) × (expr_at lines set ≡ Some expr)
    × ((family_of expr ≡ None) ⊎ (family_of expr ≡ Some family))

-- what is asked about: the identifiers of formulas and constants, each before the action (false) or
-- after it (true)
abbrev pub Askings : Type 0
Askings = List (ℕ × Bool)

-- the one comes before the other: its identifier is less, or the two have one identifier and only
-- the other is asked about after the action
abbrev pub AskedBefore : ℕ × Bool → ℕ × Bool → Type 0
AskedBefore first second =
    (first.0 < second.0) ⊎ ((first.0 ≡ second.0) × (first.1 ≡ false) × (second.1 ≡ true))

-- each comes before those that follow it, so none occurs twice
abbrev pub AskingsRise : Askings → Type 0
AskingsRise askings =
    (i j : ℕ) (first second : ℕ × Bool) → i < j → slice_get askings i ≡ Some first
    → slice_get askings j ≡ Some second → AskedBefore first second

-- how many operands a statement can have
abbrev pub most_operands : ℕ
most_operands = 65536

-- All formulas that are asked about are of the family; where all are constants it is Horn.
pub record IsFamilyOf (lines : List Line) (word : Word) (left right : ℕ) (family : FormulaFamily)
    : Type 0 where
  pub within : (positive : Bool) (asked : ℕ × Bool) → IsAsked lines word left right positive asked
      → IsWithinFamily lines family asked.0
  pub some : (family ≡ F.Horn)
      ⊎ ((positive : Bool) × (asked : ℕ × Bool) × IsAsked lines word left right positive asked
      × IsOfFamily lines family asked.0)

-- a basic statement of sets by what it asks: its family, what is asked about with each sign, and
-- the action set of its step
pub record QuestionState : Type 0 where
  pub family : FormulaFamily
  pub positive : Askings
  pub negative : Askings
  pub acts : Option ℕ

-- the question is that of the statement that the left set is within the right one, which has the
-- shape of the word
pub record IsQuestion (lines : List Line) (word : Word) (left right : ℕ) (question : QuestionState)
    : Type 0 where
  pub sides : HasSides lines word left right question.acts
  -- what is asked about, in order
  pub positive : (asked : ℕ × Bool)
      → Contains question.positive asked ↔ IsAsked lines word left right true asked
  pub negative : (asked : ℕ × Bool)
      → Contains question.negative asked ↔ IsAsked lines word left right false asked
  pub positive_rises : AskingsRise question.positive
  pub negative_rises : AskingsRise question.negative
  pub few : length question.positive + length question.negative ≤ most_operands
  pub family : IsFamilyOf lines word left right question.family

-- the sets are formulas of two different families
abbrev pub AreOfTwoFamilies : List Line → ℕ → ℕ → Type 0
AreOfTwoFamilies lines x y =
    (first : FormulaFamily) × (second : FormulaFamily) × IsOfFamily lines first x
    × IsOfFamily lines second y × (first ≡ second → ⊥)

-- the sides are formulas of two different families, each itself (true) or its negation (false)
pub record AreTwo (lines : List Line) (left right : ℕ) (x y : ℕ × Bool) : Type 0 where
  pub left_is : IsLiteralOf lines left x.0 x.1
  pub right_is : IsLiteralOf lines right y.0 y.1
  pub families : AreOfTwoFamilies lines x.0 y.0

-- a basic statement: of sets of one family, with its word, of formulas of two families, the left
-- one first, each itself (true) or its negation (false), or of two action sets
pub data BasicState : Type 0 where
  OfSets : Word → QuestionState → BasicState
  OfTwo : ℕ × Bool → ℕ × Bool → BasicState
  OfActs : ℕ → ℕ → BasicState

-- the statement with the word has its shape, and asks this
abbrev pub IsShaped : List Line → Statement → Word → BasicState → Type 0
IsShaped lines (T.Sub left right) word (OfSets asked question) =
    (asked ≡ word) × IsQuestion lines word left right question
IsShaped lines (T.Sub left right) word (OfTwo x y) = (word ≡ W.B4) × AreTwo lines left right x y
IsShaped lines (T.ActSub left right) W.B5 (OfActs first second) = (first ≡ left) × (second ≡ right)
IsShaped lines _ _ _ = ⊥

-- the statement has the shape of the word
abbrev pub HasShape : List Line → Statement → Word → Type 0
HasShape lines statement word = (basic : BasicState) × IsShaped lines statement word basic
