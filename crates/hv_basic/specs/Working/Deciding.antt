-- Working definitions beside those of `Deciding`: for private contracts and proofs.
use Rattle.std.specs.Prelude.{◌≡◌, ◌<◌, ℕ, List, [], Option, Some, IfSome, length, map, slice_get}
use Rattle.std.specs.Prelude.{slice_index_or}
use Rattle.hv_task.specs.Strips.{Strips, atoms}
use Rattle.hv_sets.specs.Cost.{ClausesPass}
use Rattle.hv_sets.specs.Query.{IsReady, is_clash}
use Rattle.hv_sets.specs.Truth.{in_clauses}
use Rattle.hv_sets.specs.declared.literal.Literal.{Literal}
use Rattle.hv_sets.specs.declared.query.Query.{Query}
use Rattle.hv_lines.specs.Queries.{PassesBudget, count_of, has_of, queries_of, query_of}
use Rattle.hv_lines.specs.Verdicts.{IsDecided}
use Rattle.hv_lines.specs.declared.formula_family.FormulaFamily.{FormulaFamily}
use Rattle.hv_lines.specs.declared.verdict.Verdict.{Verdict}
use Rattle.hv_lines.specs.Setting.{Setting}
use Rattle.hv_lines.specs.Shapes.{QuestionState}
use Rattle.hv_lines.specs.declared.line.Line.{Line}
use Rattle.hv_basic.specs.Working.Asked.{with_action}

-- for each of these actions the query can be asked of a store with so many sets, for a task with so
-- many actions
pub record AreAllReady (count actions : ℕ) (query : Query) (asked : List (Option ℕ)) : Type 0 where
  pub ready : (place : ℕ) (action : Option ℕ) → slice_get asked place ≡ Some action
      → IsReady count (with_action query action)
  pub below : (place : ℕ) (action : Option ℕ) → slice_get asked place ≡ Some action
      → IfSome action (λ a. a < actions)

-- the verdict of queries over the sets of a family
abbrev pub IsDecidedOver : Setting → List Line → FormulaFamily → List Query → Verdict → Type 0
IsDecidedOver setting lines family queries verdict =
    IsDecided (PassesBudget setting lines family)
    (is_clash setting.task (has_of setting lines family)) (atoms setting.task) queries verdict

-- the verdict of queries over formulas in clauses, by number
abbrev pub IsDecidedIn : Setting → List (List (List Literal)) → List Query → Verdict → Type 0
IsDecidedIn setting lists queries verdict =
    IsDecided (λ query. ClausesPass setting.task (λ number. length (slice_index_or lists number []))
    query setting.budget)
    (is_clash setting.task (λ number state. in_clauses (slice_index_or lists number []) state))
    (atoms setting.task) queries verdict

-- the query, with an action, asks what the question asks, and it can be asked for each of these
-- actions; so many nodes there are
pub record IsQueryFor (task : Strips) (nodes : ℕ) (lines : List Line) (question : QuestionState)
    (query : Query)
    (actions : List (Option ℕ)) : Type 0
  where
    pub is : (action : Option ℕ) → with_action query action ≡ query_of lines question action
    pub ready : AreAllReady (count_of lines question.family nodes)
        (length task.actions) query actions

-- the verdict of the queries for these actions is that of all queries of the question
abbrev pub AreEnough : Setting → List Line → QuestionState → Query → List (Option ℕ) → Type 0
AreEnough setting lines question query actions =
    (verdict : Verdict)
    → IsDecidedOver setting lines question.family (map (with_action query) actions) verdict
    → IsDecidedOver setting lines question.family (queries_of setting.task lines question) verdict
