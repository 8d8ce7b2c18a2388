-- What is kept of right sides, left sides and action sets for the statements after them.
use Rattle.std.specs.Prelude.{◌≡◌, ◌<◌, ◌↔◌, ◌⊎◌, ◌*◌, ℕ, Bool, true, false, List, [], ◌∷◌, Option, None}
use Rattle.std.specs.Prelude.{Some, IfSome, length, map, slice_index_or}
use Rattle.std.specs.BTreeSet.{BTreeSet, contains}
use Rattle.std.specs.List.{All, Contains}
use Rattle.std.specs.Ordering.{bool_cmp, nat_cmp, ordering_then}
use Rattle.std.specs.declared.cmp.Ordering.{Ordering}
use Rattle.hv_sets.specs.Cubes.{opposite}
use Rattle.hv_sets.specs.declared.literal.Literal.{Literal}
use Rattle.hv_lines.specs.Literals.{IsNegatedSet, IsPlainSet}
use Rattle.hv_lines.specs.Meaning.{acts_of}
use Rattle.hv_lines.specs.Numbering.{IsTable, acts_count, expr_at, expr_count}
use Rattle.hv_lines.specs.Queries.{operand_of}
use Rattle.hv_lines.specs.Shapes.{Askings, AskingsRise, IsAndLeaf}
use Rattle.hv_lines.specs.Shapes.{IsOfFamily, IsOrLeaf, IsWithinFamily, family_of, most_operands}
use Rattle.hv_lines.specs.declared.formula_family.FormulaFamily.{FormulaFamily}
use Rattle.hv_lines.specs.declared.formula_family.FormulaFamily.TheVariants as F
use Rattle.hv_lines.specs.declared.line.Constant.TheVariants as C
use Rattle.hv_lines.specs.declared.line.Expr.{Expr}
use Rattle.hv_lines.specs.declared.line.Expr.TheVariants as E
use Rattle.hv_lines.specs.declared.line.Line.{Line}
use Rattle.hv_basic.specs.Leaves.{IsLeafRead, places}
use Rattle.hv_basic.specs.declared.joint.JointFormula.{JointFormula}
use Rattle.hv_basic.specs.declared.joint.JointFormula.TheVariants as J
use Rattle.hv_basic.specs.declared.shared.FlaggedActs.{FlaggedActs}
use Rattle.hv_basic.specs.declared.shared.Kept.{Kept}
use Rattle.hv_basic.specs.declared.shared.KeptJoint.{KeptJoint}
use Rattle.hv_basic.specs.declared.shared.KeptLeaves.{KeptLeaves}
use Rattle.hv_basic.specs.declared.signed_sets.Leaf.{Leaf}

-- the set is no formula
abbrev pub IsNoFormula : List Line → ℕ → Type 0
IsNoFormula lines set = (expr : Expr) × (expr_at lines set ≡ Some expr) × (family_of expr ≡ None)

-- the formulas among what is asked about are all of the family, or there are none
abbrev pub IsTheFamily : List Line → Askings → Option FormulaFamily → Type 0
IsTheFamily lines asked None = (a : ℕ × Bool) → Contains asked a → IsNoFormula lines a.0
IsTheFamily lines asked (Some family) =
    ((a : ℕ × Bool) → Contains asked a → IsWithinFamily lines family a.0)
    × ((a : ℕ × Bool) × Contains asked a × IsOfFamily lines family a.0)

-- formulas and constants, all asked about after the action or all before it, in order, with their
-- family
pub record ArePlain (lines : List Line) (after : Bool) (family : Option FormulaFamily)
    (asked : Askings) : Type 0
  where
    pub table : IsTable lines
    pub plain : (a : ℕ × Bool) → Contains asked a → IsPlainSet lines a.0 × (a.1 ≡ after)
    pub rises : AskingsRise asked
    pub one_family : IsTheFamily lines asked family

-- how many clauses there are to choose from: those of a formula in clauses, and of the empty set
-- one
abbrev pub clauses_to_choose : Expr → Option ℕ
clauses_to_choose (E.Constant C.Empty) = Some 1
clauses_to_choose (E.Constant C.Start) = None
clauses_to_choose (E.Constant C.Goal) = None
clauses_to_choose (E.Horn clauses) = Some (length clauses)
clauses_to_choose (E.Dual clauses) = Some (length clauses)
clauses_to_choose (E.Two clauses) = Some (length clauses)
clauses_to_choose (E.States states) = None
clauses_to_choose (E.Node node) = None
clauses_to_choose (E.Not set) = None
clauses_to_choose (E.And left right) = None
clauses_to_choose (E.Or left right) = None
clauses_to_choose (E.After set acts) = None
clauses_to_choose (E.Before set acts) = None

-- the set has so many clauses to choose from
abbrev pub HasToChoose : List Line → ℕ → ℕ → Type 0
HasToChoose lines set count =
    (expr : Expr) × (expr_at lines set ≡ Some expr) × (clauses_to_choose expr ≡ Some count)

-- there are so many ways to choose one clause of each set that is asked about
abbrev pub AreWays : List Line → Askings → ℕ → Type 0
AreWays lines [] ways = ways ≡ 1
AreWays lines (a ∷ asked) ways =
    (count : ℕ) × (rest : ℕ) × HasToChoose lines a.0 count × AreWays lines asked rest
    × (ways ≡ count * rest)

-- the clauses of a formula in clauses
abbrev pub own_clauses : Expr → Option (List (List Literal))
own_clauses (E.Horn clauses) = Some clauses
own_clauses (E.Dual clauses) = Some clauses
own_clauses (E.Two clauses) = Some clauses
own_clauses (E.Constant constant) = None
own_clauses (E.States states) = None
own_clauses (E.Node node) = None
own_clauses (E.Not set) = None
own_clauses (E.And left right) = None
own_clauses (E.Or left right) = None
own_clauses (E.After set acts) = None
own_clauses (E.Before set acts) = None

-- there is one clause, which has the literal
abbrev pub IsLoneFor : List (List Literal) → Literal → Type 0
IsLoneFor clauses literal =
    (clause : List Literal) × (clauses ≡ clause ∷ []) × Contains clause literal

-- a state in which the literal is true is in the set: this has one clause, which has the literal
abbrev pub IsEnoughFor : List Line → ℕ → Literal → Type 0
IsEnoughFor lines set literal =
    (expr : Expr) × (expr_at lines set ≡ Some expr)
    × ((clauses : List (List Literal)) × (own_clauses expr ≡ Some clauses)
    × IsLoneFor clauses literal)

-- how pairs are put in order: by their number, and of one number first what has no flag (of what is
-- asked about that before the action, of literals the negative one)
abbrev pub order : ℕ × Bool → ℕ × Bool → Ordering
order first second = ordering_then (nat_cmp first.0 second.0) (bool_cmp first.1 second.1)

-- the literal is among these
abbrev pub NamesLiteral : BTreeSet (ℕ × Bool) → Literal → Type 0
NamesLiteral literals literal =
    contains order literals (literal.atom, literal.positive) ≡ true

-- a state in which the literal is true isn't in the set: this has the opposite as a clause
abbrev pub IsAgainstSet : List Line → ℕ → Literal → Type 0
IsAgainstSet lines set literal =
    (expr : Expr) × (expr_at lines set ≡ Some expr)
    × ((clauses : List (List Literal)) × (own_clauses expr ≡ Some clauses)
    × Contains clauses (opposite literal ∷ []))

-- one of the leaves was read as the negation of the set
abbrev pub IsNegatedIn : List Leaf → ℕ → Type 0
IsNegatedIn leaves set = (leaf : Leaf) × Contains leaves leaf
    × (leaf.literal ≡ Some (record { set = set; is_plain = false }))

-- each of the literals is enough for one of the sets that are asked about, or against one of which
-- a leaf is the negation
abbrev pub AreEnoughFor : List Line → Bool → Askings → List Leaf → BTreeSet (ℕ × Bool) → Type 0
AreEnoughFor lines after asked leaves literals =
    (literal : Literal) → NamesLiteral literals literal
    → ((set : ℕ) × Contains asked (set, after) × IsEnoughFor lines set literal)
    ⊎ ((set : ℕ) × IsNegatedIn leaves set × IsAgainstSet lines set literal)

-- the leaves are negations, with what was read of each
abbrev pub AreNegations : List Line → List Leaf → Type 0
AreNegations lines leaves = (leaf : Leaf) → Contains leaves leaf
    → IsNegatedSet lines leaf.place × IsLeafRead lines leaf

-- the formulas of which the leaves are negations are all of the family, or there are none
abbrev pub IsNegatedFamily : List Line → List Leaf → Option FormulaFamily → Type 0
IsNegatedFamily lines leaves None =
    (set : ℕ) → IsNegatedIn leaves set → IsNoFormula lines set
IsNegatedFamily lines leaves (Some family) =
    ((set : ℕ) → IsNegatedIn leaves set → IsWithinFamily lines family set)
    × ((set : ℕ) × IsNegatedIn leaves set × IsOfFamily lines family set)

-- the leaf is kept, among the formulas and constants or among the negations
abbrev pub HasLeaf : Kept → ℕ → Type 0
HasLeaf kept leaf =
    Contains kept.question.negative.items (leaf, kept.after)
    ⊎ Contains (places kept.negations.items) leaf

-- what is kept are formulas and constants, with the number of ways, where it is told, and the
-- operands that ask about them, where they are named; negations, with the family of what they
-- negate; and literals each of which puts a state into one of these sets
pub record IsPlainSide (lines : List Line) (kept : Kept) : Type 0 where
  pub plain : ArePlain lines kept.after kept.family kept.question.negative.items
  pub ways : IfSome kept.ways (AreWays lines kept.question.negative.items)
  pub enough : AreEnoughFor lines kept.after kept.question.negative.items kept.negations.items
      kept.enough
  pub negations : AreNegations lines kept.negations.items
  pub negated : IsNegatedFamily lines kept.negations.items kept.negated
  pub named : kept.named ≡ true → kept.query.negative
      ≡ map (λ a. operand_of lines a) kept.question.negative.items

-- what is kept is the union's
pub record IsKeptFor (lines : List Line) (kept : Kept) (root : ℕ) : Type 0 where
  pub below : root < expr_count lines
  pub side : IsPlainSide lines kept
  pub leaves : (leaf : ℕ) → HasLeaf kept leaf ↔ IsOrLeaf lines root leaf

-- what is kept is right for these lines, if something is kept
abbrev pub IsRightSide : List Line → Kept → Type 0
IsRightSide lines kept = IfSome kept.root (IsKeptFor lines kept)

-- the flags that are kept say which actions are in their action set
pub record AreItsFlags (lines : List Line) (kept : FlaggedActs) : Type 0 where
  pub table : IsTable lines
  pub below : kept.acts < acts_count lines
  pub true_for : (number : ℕ) → number < length kept.flags.items
      → slice_index_or kept.flags.items number false ≡ acts_of lines kept.acts number

-- the leaves that are kept are those of the intersection, with what was read of each
pub record AreItsLeaves (lines : List Line) (kept : KeptLeaves) : Type 0 where
  pub table : IsTable lines
  pub below : kept.root < expr_count lines
  pub leaves : (leaf : ℕ)
      → Contains (places kept.leaves.items) leaf ↔ IsAndLeaf lines kept.root leaf
  pub read : All (IsLeafRead lines) kept.leaves.items

-- the family of a joint formula
abbrev pub joint_family : JointFormula → FormulaFamily
joint_family (J.Horn formula) = F.Horn
joint_family (J.Dual formula) = F.Dual
joint_family (J.Two formula) = F.Two

-- its clauses
abbrev pub joint_clauses : JointFormula → List (List Literal)
joint_clauses (J.Horn formula) = formula.clauses
joint_clauses (J.Dual formula) = formula.clauses
joint_clauses (J.Two formula) = formula.clauses

-- the clause is one of the formula in clauses
abbrev pub HasClause : List Line → ℕ → List Literal → Type 0
HasClause lines set clause =
    (expr : Expr) × (expr_at lines set ≡ Some expr)
    × ((clauses : List (List Literal)) × (own_clauses expr ≡ Some clauses)
    × Contains clauses clause)

-- the clauses are those of the sets that are asked about, all of them and no others
abbrev pub AreJointClauses : List Line → Askings → List (List Literal) → Type 0
AreJointClauses lines asked clauses = (clause : List Literal) → Contains clauses clause
    ↔ ((a : ℕ × Bool) × Contains asked a × HasClause lines a.0 clause)

-- the formula stands for the sets that are asked about: they are formulas of its family, and it has
-- their clauses, so it has a state exactly where each of them has it
pub record IsJointOf (lines : List Line) (asked : Askings) (formula : JointFormula) : Type 0 where
  pub of_family : (a : ℕ × Bool) → Contains asked a → IsOfFamily lines (joint_family formula) a.0
  pub clauses : AreJointClauses lines asked (joint_clauses formula)

-- each leaf of the intersection is asked about before the action, in order, and they are so few
-- that one set more can be asked about
pub record AreLeavesAsked (lines : List Line) (root : ℕ) (asked : Askings) : Type 0 where
  pub each : (a : ℕ × Bool) → Contains asked a ↔ (IsAndLeaf lines root a.0 × (a.1 ≡ false))
  pub rises : AskingsRise asked
  pub few : length asked < most_operands

-- the formula stands for the leaves of the intersection
pub record IsJointFor (lines : List Line) (root : ℕ) (formula : JointFormula) : Type 0 where
  pub asked : Askings
  pub leaves : AreLeavesAsked lines root asked
  pub joint : IsJointOf lines asked formula

-- the formula that is kept of the intersection stands for its leaves, if there is one
pub record IsJointKept (lines : List Line) (kept : KeptJoint) : Type 0 where
  pub table : IsTable lines
  pub below : kept.root < expr_count lines
  pub stands : IfSome kept.formula (IsJointFor lines kept.root)

-- what is kept of right sides, of left sides and of action sets
pub record SharedState : Type 0 where
  pub sides : List Kept
  pub lefts : List KeptLeaves
  pub joints : List KeptJoint
  pub flagged : List FlaggedActs

-- what is kept is right for these lines
pub record IsShared (lines : List Line) (shared : SharedState) : Type 0 where
  pub sides : All (IsRightSide lines) shared.sides
  pub lefts : All (AreItsLeaves lines) shared.lefts
  pub joints : All (IsJointKept lines) shared.joints
  pub flagged : All (AreItsFlags lines) shared.flagged
