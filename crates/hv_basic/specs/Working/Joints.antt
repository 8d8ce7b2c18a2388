-- Joint formulas: what they are made of, and what is decided on them.
use Rattle.std.specs.Prelude.{◌≡◌, ◌<◌, ◌≤◌, ℕ, Bool, true, false, List, ◌∷◌, []}
use Rattle.std.specs.Prelude.{Some, None, length, slice_get}
use Rattle.std.specs.List.{Contains}
use Rattle.hv_task.specs.Strips.{atoms}
use Rattle.hv_sets.specs.Truth.{in_clauses}
use Rattle.hv_sets.specs.declared.literal.Literal.{Literal}
use Rattle.hv_sets.specs.declared.operand.Which.{Which}
use Rattle.hv_sets.specs.declared.operand.Which.TheVariants as S
use Rattle.hv_formula.specs.Clausal.{FormulaState}
use Rattle.hv_mixed.specs.Inclusion.{difference}
use Rattle.hv_lines.specs.Numbering.{expr_at}
use Rattle.hv_lines.specs.Shapes.{Askings, QuestionState}
use Rattle.hv_lines.specs.declared.formula_family.FormulaFamily.{FormulaFamily}
use Rattle.hv_lines.specs.declared.line.Expr.{Expr}
use Rattle.hv_lines.specs.declared.line.Line.{Line}
use Rattle.hv_lines.specs.declared.verdict.Verdict.{Verdict}
use Rattle.hv_lines.specs.declared.verdict.Verdict.TheVariants as V
use Rattle.hv_basic.specs.Cases.{lines_in}
use Rattle.hv_basic.specs.Sharing.{own_clauses}
use Rattle.hv_basic.specs.declared.case.Case.{Case}
use Rattle.hv_basic.specs.declared.shared.KeptJoint.{KeptJoint}
use Rattle.hv_basic.specs.declared.shared.KeptLeaves.{KeptLeaves}

-- the formula of the set is in the store by its name, over so many atoms
pub record IsStoredIn (lines : List Line) (names : List Which) (store : List FormulaState)
    (count : ℕ) (set : ℕ) : Type 0
  where
    pub number : ℕ
    pub formula : FormulaState
    pub named : slice_get names set ≡ Some (S.Set number)
    pub there : slice_get store number ≡ Some formula
    pub wide : formula.atoms ≡ count
    pub expr : Expr
    pub at : expr_at lines set ≡ Some expr
    pub of : own_clauses expr ≡ Some formula.clauses

-- so is that of each set that is asked about
abbrev pub AreAllStored : Case → List FormulaState → Askings → Type 0
AreAllStored case store asked = (a : ℕ × Bool) → Contains asked a
    → IsStoredIn (lines_in case) case.store.now.names store (atoms case.task.now) a.0

-- the state is in each set that is asked about
abbrev pub IsInEach : List Line → Askings → List Bool → Type 0
IsInEach lines asked state = (a : ℕ × Bool) (expr : Expr) (clauses : List (List Literal))
    → Contains asked a → expr_at lines a.0 ≡ Some expr → own_clauses expr ≡ Some clauses
    → in_clauses clauses state ≡ true

-- the verdict on the inclusion of formulas with these clauses, of which the right ones are the cost
abbrev pub IsVerdictWithin : ℕ → ℕ → List (List Literal) → List (List Literal) → Verdict → Type 0
IsVerdictWithin budget count left right V.True =
    (length right ≤ budget)
    × ((state : List Bool) → length state ≡ count
    → difference (in_clauses left) (in_clauses right) state ≡ false)
IsVerdictWithin budget count left right (V.False found) =
    (length right ≤ budget) × (found.action ≡ None)
    × ((state : List Bool) × (found.state ≡ Some state) × (length state ≡ count)
    × (difference (in_clauses left) (in_clauses right) state ≡ true))
IsVerdictWithin budget count left right V.Over = budget < length right
IsVerdictWithin budget count left right V.NotOffered = ⊥

-- what an inclusion asks whose left side asks this, and whose right side is one formula
abbrev pub question_within : FormulaFamily → Askings → ℕ → QuestionState
question_within family asked right = record {
  family = family;
  positive = asked;
  negative = (right, false) ∷ [];
  acts = None;
}

-- at this place is what is kept of the left side as one formula
abbrev pub IsJointAt : List KeptJoint → ℕ → ℕ → Type 0
IsJointAt joints root place =
    (kept : KeptJoint) × (slice_get joints place ≡ Some kept) × (kept.root ≡ root)

-- at this place are the leaves of the left side
abbrev pub IsLeftAt : List KeptLeaves → ℕ → ℕ → Type 0
IsLeftAt lefts root place =
    (kept : KeptLeaves) × (slice_get lefts place ≡ Some kept) × (kept.root ≡ root)
