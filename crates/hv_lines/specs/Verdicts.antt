-- The verdict of a basic statement.
use Rattle.std.specs.Prelude.{◌≡◌, ◌<◌, ◌≤◌, ℕ, Bool, true, false, List, Some, None, length}
use Rattle.std.specs.Prelude.{slice_get}
use Rattle.hv_task.specs.Strips.{Strips, atoms}
use Rattle.hv_sets.specs.Query.{is_clash}
use Rattle.hv_sets.specs.declared.query.Query.{Query}
use Rattle.hv_lines.specs.Meaning.{acts_of}
use Rattle.hv_lines.specs.Mixed.{Signed, cost_of, is_between}
use Rattle.hv_lines.specs.Numbering.{expr_at}
use Rattle.hv_lines.specs.Queries.{IsOffered, PassesBudget, has_of, queries_of}
use Rattle.hv_lines.specs.Setting.{Setting}
use Rattle.hv_lines.specs.Shapes.{BasicState, OfSets, OfTwo, OfActs, QuestionState, IsShaped}
use Rattle.hv_lines.specs.declared.line.Expr.{Expr}
use Rattle.hv_lines.specs.declared.line.Line.{Line}
use Rattle.hv_lines.specs.declared.line.Statement.{Statement}
use Rattle.hv_lines.specs.declared.line.Word.{Word}
use Rattle.hv_lines.specs.declared.reason.Clash.{Clash}
use Rattle.hv_lines.specs.declared.verdict.Verdict.{Verdict}
use Rattle.hv_lines.specs.declared.verdict.Verdict.TheVariants as V

module _ (Passes : Query → Type 0) (clash : Query → List Bool → Bool) (atoms : ℕ) where
  -- the query decides nothing: it is within the budget, and no state is a counterexample to it
  abbrev pub DecidesNothing : Query → Type 0
  DecidesNothing query =
      (Passes query → ⊥) × ((state : List Bool) → length state ≡ atoms → clash query state ≡ false)

  -- the query is in the list, and each one before it decides nothing
  abbrev pub IsDecisive : List Query → Query → Type 0
  IsDecisive queries query =
      (place : ℕ) × (slice_get queries place ≡ Some query)
      × ((lower : ℕ) (earlier : Query) → lower < place → slice_get queries lower ≡ Some earlier
      → DecidesNothing earlier)

  -- the counterexample is the query's: it has the query's action, and a state that is one
  abbrev pub IsClashOf : Query → Clash → Type 0
  IsClashOf query found =
      (found.action ≡ query.action)
      × ((state : List Bool) × (found.state ≡ Some state) × (length state ≡ atoms)
      × (clash query state ≡ true))

  -- The verdict of a list of queries: the first that exceeds the budget or has a counterexample
  -- decides.
  abbrev pub IsDecided : List Query → Verdict → Type 0
  IsDecided queries V.True =
      (place : ℕ) (query : Query) → slice_get queries place ≡ Some query → DecidesNothing query
  IsDecided queries (V.False found) =
      (query : Query) × IsDecisive queries query × (Passes query → ⊥) × IsClashOf query found
  IsDecided queries V.Over = (query : Query) × IsDecisive queries query × Passes query
  IsDecided queries V.NotOffered = ⊥

-- the verdict of a question
abbrev pub IsVerdictOfSets : Setting → List Line → QuestionState → Verdict → Type 0
IsVerdictOfSets setting lines question V.NotOffered = IsOffered lines question → ⊥
IsVerdictOfSets setting lines question verdict =
    IsOffered lines question
    × IsDecided (PassesBudget setting lines question.family)
    (is_clash setting.task (has_of setting lines question.family)) (atoms setting.task)
    (queries_of setting.task lines question) verdict

-- the inclusion is decided, at a cost within the budget
abbrev pub IsAffordable : Setting → Signed → Signed → Type 0
IsAffordable setting left right =
    (cost : ℕ) × (cost_of setting.nodes left right ≡ Some cost) × (cost ≤ setting.budget)

-- the verdict on the inclusion of a side in another one, each a formula or its negation: the cost
-- is looked at before any state
abbrev pub IsVerdictOfSides : Setting → Signed → Signed → Verdict → Type 0
IsVerdictOfSides setting left right V.NotOffered = cost_of setting.nodes left right ≡ None
IsVerdictOfSides setting left right V.Over =
    (cost : ℕ) × (cost_of setting.nodes left right ≡ Some cost) × (setting.budget < cost)
IsVerdictOfSides setting left right (V.False found) =
    IsAffordable setting left right × (found.action ≡ None)
    × ((state : List Bool) × (found.state ≡ Some state) × (length state ≡ atoms setting.task)
    × (is_between setting left right state ≡ true))
IsVerdictOfSides setting left right V.True =
    IsAffordable setting left right
    × ((state : List Bool) → length state ≡ atoms setting.task
    → is_between setting left right state ≡ false)

-- the verdict on two formulas by their identifiers, each itself (true) or its negation (false)
abbrev pub IsVerdictOfTwo : Setting → List Line → ℕ × Bool → ℕ × Bool → Verdict → Type 0
IsVerdictOfTwo setting lines x y verdict =
    (first : Expr) × (second : Expr) × (expr_at lines x.0 ≡ Some first)
    × (expr_at lines y.0 ≡ Some second)
    × IsVerdictOfSides setting (first, x.1) (second, y.1) verdict

-- the action is in the first action set and not in the second
abbrev pub IsOutside : Strips → List Line → ℕ → ℕ → ℕ → Type 0
IsOutside task lines first second number =
    (number < length task.actions) × (acts_of lines first number ≡ true)
    × (acts_of lines second number ≡ false)

-- the verdict on two action sets: a counterexample is the least action of the first that isn't in
-- the second
abbrev pub IsVerdictOfActs : Strips → List Line → ℕ → ℕ → Verdict → Type 0
IsVerdictOfActs task lines first second V.True =
    (number : ℕ) → IsOutside task lines first second number → ⊥
IsVerdictOfActs task lines first second (V.False found) =
    (number : ℕ) × (found.action ≡ Some number) × (found.state ≡ None)
    × IsOutside task lines first second number
    × ((lower : ℕ) → lower < number → IsOutside task lines first second lower → ⊥)
IsVerdictOfActs task lines first second V.Over = ⊥
IsVerdictOfActs task lines first second V.NotOffered = ⊥

-- the verdict of a basic statement
abbrev pub IsVerdictOf : Setting → List Line → BasicState → Verdict → Type 0
IsVerdictOf setting lines (OfSets word question) verdict =
    IsVerdictOfSets setting lines question verdict
IsVerdictOf setting lines (OfTwo x y) verdict = IsVerdictOfTwo setting lines x y verdict
IsVerdictOf setting lines (OfActs first second) verdict =
    IsVerdictOfActs setting.task lines first second verdict

-- the verdict of a statement with its word, where it has the shape
abbrev pub IsVerdict : Setting → List Line → Statement → Word → Verdict → Type 0
IsVerdict setting lines statement word verdict =
    (basic : BasicState) × IsShaped lines statement word basic × IsVerdictOf setting lines basic
    verdict
