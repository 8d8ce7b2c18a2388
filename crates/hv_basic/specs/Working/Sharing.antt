-- Working definitions beside those of `Sharing`: for private contracts and proofs.
use Rattle.std.specs.Prelude.{◌≡◌, ◌<◌, ◌≤◌, ◌⊎◌, ◌↔◌, ◌*◌, ℕ, Bool, true, false, List, []}
use Rattle.std.specs.Prelude.{◌∷◌, Option, None, Some, IfSome, length, slice_index_or}
use Rattle.std.specs.List.{Contains}
use Rattle.hv_lines.specs.Numbering.{IsTable, expr_at, expr_count}
use Rattle.hv_lines.specs.Shapes.{Askings, IsOrLeaf, IsQuestion}
use Rattle.hv_lines.specs.Shapes.{IsWithinFamily, QuestionState}
use Rattle.hv_lines.specs.declared.formula_family.FormulaFamily.{FormulaFamily}
use Rattle.hv_lines.specs.declared.formula_family.FormulaFamily.TheVariants as F
use Rattle.hv_lines.specs.declared.line.Expr.{Expr}
use Rattle.hv_lines.specs.declared.line.Expr.TheVariants as E
use Rattle.hv_lines.specs.declared.line.Line.{Line}
use Rattle.hv_lines.specs.declared.line.Word.{Word}
use Rattle.hv_lines.specs.Setting.{Setting}
use Rattle.hv_lines.specs.Verdicts.{IsVerdictOfSets}
use Rattle.hv_lines.specs.declared.verdict.Verdict.{Verdict}
use Rattle.hv_basic.specs.Leaves.{places}
use Rattle.hv_basic.specs.Sharing.{AreItsLeaves, AreWays, HasLeaf, HasToChoose, clauses_to_choose}
use Rattle.hv_basic.specs.Working.Asked.{AreOperands}
use Rattle.hv_basic.specs.Working.Gathered.{AreGathered, IsFamilyIn}
use Rattle.hv_basic.specs.Working.Views.{question_of}
use Rattle.hv_basic.specs.declared.signed_sets.Asking.{Asking}
use Rattle.hv_basic.specs.declared.shared.Kept.{Kept}
use Rattle.hv_basic.specs.declared.shared.KeptLeaves.{KeptLeaves}

-- what the family of one more set makes of the family of those before it
abbrev pub IsFamilyWith : Option FormulaFamily → Option FormulaFamily → Option FormulaFamily
    → Type 0
IsFamilyWith None next both = both ≡ next
IsFamilyWith (Some family) None both = both ≡ Some family
IsFamilyWith (Some family) (Some next) both = (family ≡ next) × (both ≡ Some family)

-- both have a family, and not the same one
abbrev pub AreOtherFamilies : Option FormulaFamily → Option FormulaFamily → Type 0
AreOtherFamilies (Some first) (Some second) = first ≡ second → ⊥
AreOtherFamilies _ _ = ⊥

-- how many of what is asked about, which rises, have lesser identifiers
abbrev pub IsSplitAt : Askings → ℕ → ℕ → Type 0
IsSplitAt asked set place =
    (place ≤ length asked)
    × ((k : ℕ) (d : ℕ × Bool) → k < place → (slice_index_or asked k d).0 < set)
    × ((k : ℕ) (d : ℕ × Bool) → place ≤ k → k < length asked → set ≤ (slice_index_or asked k d).0)

-- the place at which the set belongs among what is asked about, where it isn't there
abbrev pub IsPlaceFor : Askings → ℕ → ℕ → Type 0
IsPlaceFor asked set place =
    (place ≤ length asked)
    × ((k : ℕ) (d : ℕ × Bool) → k < place → (slice_index_or asked k d).0 < set)
    × ((k : ℕ) (d : ℕ × Bool) → place ≤ k → k < length asked → set < (slice_index_or asked k d).0)

-- the leaf was added to what is kept
abbrev pub IsAddedTo : ℕ → Kept → Kept → Type 0
IsAddedTo leaf old new =
    (other : ℕ) → HasLeaf new other ↔ (HasLeaf old other ⊎ (leaf ≡ other))

-- the ways that there are with one more set, where they are told
abbrev pub AreWaysWith : Option ℕ → Expr → Option ℕ → Type 0
AreWaysWith before expr ways = IfSome ways (λ new. (old : ℕ) × (count : ℕ) × (before ≡ Some old)
    × (clauses_to_choose expr ≡ Some count) × (new ≡ count * old))

-- the leaves were added to what is kept
abbrev pub AreAddedTo : List ℕ → Kept → Kept → Type 0
AreAddedTo leaves old new =
    (leaf : ℕ) → HasLeaf new leaf ↔ (HasLeaf old leaf ⊎ Contains leaves leaf)

-- the union's leaves are those that are kept and those of the part
abbrev pub IsMadeOf : List Line → Kept → ℕ → ℕ → Type 0
IsMadeOf lines kept root part = (leaf : ℕ) → IsOrLeaf lines root leaf
    ↔ (HasLeaf kept leaf ⊎ IsOrLeaf lines part leaf)

-- the set is the union of what is kept and this part
abbrev pub IsPartBeside : List Line → Option ℕ → ℕ → ℕ → Type 0
IsPartBeside lines kept root part = (part < expr_count lines) × ((first : ℕ) × (kept ≡ Some first)
    × ((expr_at lines root ≡ Some (E.Or first part))
    ⊎ (expr_at lines root ≡ Some (E.Or part first))))

-- the set is the intersection of the first one and this part
abbrev pub IsAndBeside : List Line → ℕ → ℕ → ℕ → Type 0
IsAndBeside lines first root part = (part < expr_count lines)
    × ((expr_at lines root ≡ Some (E.And first part))
    ⊎ (expr_at lines root ≡ Some (E.And part first)))

-- what is kept are the leaves of this set
abbrev pub AreTakenLeaves : List Line → ℕ → KeptLeaves → Type 0
AreTakenLeaves lines root kept = (kept.root ≡ root) × AreItsLeaves lines kept

-- leaves with further ones
abbrev pub AreLeavesWith : List ℕ → List ℕ → List ℕ → Type 0
AreLeavesWith old more new =
    (leaf : ℕ) → Contains new leaf ↔ (Contains old leaf ⊎ Contains more leaf)

-- the family of a statement, of whose right side this is the family
abbrev pub IsFamilyBeside : List Line → List Asking → Option FormulaFamily → FormulaFamily → Type 0
IsFamilyBeside lines askings None family = IsFamilyIn lines askings family
IsFamilyBeside lines askings (Some kept) family =
    (family ≡ kept)
    × ((asking : Asking) → Contains askings asking → IsWithinFamily lines family asking.set)

-- these are asked about by the left side, or by the negations that are kept
abbrev pub AreAskedBeside : List Line → Kept → List Asking → List Asking → Type 0
AreAskedBeside lines kept asked all =
    AreGathered lines (places kept.negations.items) false kept.after asked all

-- the operands ask about the right side, where they are named
abbrev pub AreNamed : List Line → Kept → Type 0
AreNamed lines kept =
    kept.named ≡ true → AreOperands lines kept.question.negative.items kept.query.negative

-- beside what is kept stands the question of the statement that the left set is within the right
-- one
pub record IsAskedBy (lines : List Line) (word : Word) (left right : ℕ) (kept : Kept) : Type 0 where
  pub table : IsTable lines
  pub is : IsQuestion lines word left right (question_of kept.question)
  pub named : AreNamed lines kept
  pub ways : IfSome kept.ways (AreWays lines kept.question.negative.items)

-- over formulas of the family the ways to choose clauses are the cost
abbrev pub IsInClauses : FormulaFamily → Type 0
IsInClauses F.Horn = Unit {0}
IsInClauses F.Dual = Unit {0}
IsInClauses F.Two = Unit {0}
IsInClauses F.States = ⊥
IsInClauses F.Node = ⊥

-- the left side asks for a set that the right side has, at the same time, and the cost is within
-- the budget
pub record IsWithinIts (kept : Kept) (budget : ℕ) : Type 0 where
  pub family : IsInClauses kept.question.family
  pub ways : ℕ
  pub told : kept.ways ≡ Some ways
  pub few : ways ≤ budget
  pub own : ℕ × Bool
  pub asked_for : Contains kept.question.positive.items own
  pub has : Contains kept.question.negative.items own

-- the right side asks for one formula in clauses alone, for which the left side asks at the same
-- time, and the cost is within the budget
pub record IsAloneWithin (lines : List Line) (question : QuestionState) (budget : ℕ) : Type 0 where
  pub family : IsInClauses question.family
  pub own : ℕ × Bool
  pub only : question.negative ≡ own ∷ []
  pub asked_for : Contains question.positive own
  pub ways : ℕ
  pub told : HasToChoose lines own.0 ways
  pub few : ways ≤ budget

-- the verdict is that of the statement that the left set is within the right one, which has the
-- shape of the word
abbrev pub IsVerdictOfSub : Setting → List Line → Word → ℕ → ℕ → Verdict → Type 0
IsVerdictOfSub setting lines word left right verdict =
    (question : QuestionState) × IsQuestion lines word left right question
    × IsVerdictOfSets setting lines question verdict

-- the left side asks for one list of states, before the action, that the right side has, and the
-- list isn't longer than the budget allows
pub record IsListWithinIts (lines : List Line) (kept : Kept) (budget : ℕ) : Type 0 where
  pub family : kept.question.family ≡ F.States
  pub own : ℕ
  pub only : kept.question.positive.items ≡ (own, false) ∷ []
  pub has : Contains kept.question.negative.items (own, false)
  pub states : List (List ℕ)
  pub at : expr_at lines own ≡ Some (E.States states)
  pub few : length states ≤ budget
