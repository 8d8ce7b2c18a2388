-- What basic statements ask: queries of the sets of a family, and when a query costs too much or
-- has a counterexample.
use Rattle.std.specs.Prelude.{◌≡◌, ◌<◌, ◌++◌, ℕ, zero, suc, Bool, List, [], ◌∷◌, Option, Some, None}
use Rattle.std.specs.Prelude.{cond, length, map, nat_eq, slice_index_or, if◌then◌else◌}
use Rattle.hv_task.specs.Strips.{Strips, atoms}
use Rattle.hv_sets.specs.Cost.{ClausesPass, StatesPass}
use Rattle.hv_sets.specs.Query.{HasAnchor}
use Rattle.hv_sets.specs.Truth.{in_clauses, in_states}
use Rattle.hv_sets.specs.declared.literal.Literal.{Literal}
use Rattle.hv_sets.specs.declared.operand.Operand.{Operand}
use Rattle.hv_sets.specs.declared.operand.Which.{Which}
use Rattle.hv_sets.specs.declared.operand.Which.TheVariants as S
use Rattle.hv_sets.specs.declared.query.Query.{Query}
use Rattle.hv_bdd.specs.Live.{LivePass}
use Rattle.hv_bdd.specs.Nodes.{in_node}
use Rattle.hv_lines.specs.Meaning.{acts_of}
use Rattle.hv_lines.specs.Numbering.{expr_at}
use Rattle.hv_lines.specs.Setting.{Setting}
use Rattle.hv_lines.specs.Shapes.{QuestionState}
use Rattle.hv_lines.specs.declared.formula_family.FormulaFamily.{FormulaFamily}
use Rattle.hv_lines.specs.declared.formula_family.FormulaFamily.TheVariants as F
use Rattle.hv_lines.specs.declared.line.Constant.TheVariants as C
use Rattle.hv_lines.specs.declared.line.Expr.{Expr}
use Rattle.hv_lines.specs.declared.line.Expr.TheVariants as E
use Rattle.hv_lines.specs.declared.line.Line.{Line}
use Rattle.hv_lines.specs.declared.line.Line.TheVariants as L

-- The stores of a proof: the formulas of each family, in the order of their lines.

-- the Horn formula of one `e` line, if it is one
abbrev pub horn_in : Expr → List (List (List Literal))
horn_in (E.Constant constant) = []
horn_in (E.Horn clauses) = clauses ∷ []
horn_in (E.Dual clauses) = []
horn_in (E.Two clauses) = []
horn_in (E.States states) = []
horn_in (E.Node node) = []
horn_in (E.Not set) = []
horn_in (E.And left right) = []
horn_in (E.Or left right) = []
horn_in (E.After set by) = []
horn_in (E.Before set by) = []

-- its dual Horn formula, if it is one
abbrev pub dual_in : Expr → List (List (List Literal))
dual_in (E.Constant constant) = []
dual_in (E.Horn clauses) = []
dual_in (E.Dual clauses) = clauses ∷ []
dual_in (E.Two clauses) = []
dual_in (E.States states) = []
dual_in (E.Node node) = []
dual_in (E.Not set) = []
dual_in (E.And left right) = []
dual_in (E.Or left right) = []
dual_in (E.After set by) = []
dual_in (E.Before set by) = []

-- its 2CNF formula, if it is one
abbrev pub two_in : Expr → List (List (List Literal))
two_in (E.Constant constant) = []
two_in (E.Horn clauses) = []
two_in (E.Dual clauses) = []
two_in (E.Two clauses) = clauses ∷ []
two_in (E.States states) = []
two_in (E.Node node) = []
two_in (E.Not set) = []
two_in (E.And left right) = []
two_in (E.Or left right) = []
two_in (E.After set by) = []
two_in (E.Before set by) = []

-- its listed states, if it is an explicit set
abbrev pub listed_in : Expr → List (List (List ℕ))
listed_in (E.Constant constant) = []
listed_in (E.Horn clauses) = []
listed_in (E.Dual clauses) = []
listed_in (E.Two clauses) = []
listed_in (E.States states) = states ∷ []
listed_in (E.Node node) = []
listed_in (E.Not set) = []
listed_in (E.And left right) = []
listed_in (E.Or left right) = []
listed_in (E.After set by) = []
listed_in (E.Before set by) = []

-- the formulas of a kind in all lines, of which the newest is the first
abbrev pub collected : {Formula : Type 0} → (Expr → List Formula) → List Line → List Formula
collected formula_in [] = []
collected formula_in (L.Acts id acts ∷ older) = collected formula_in older
collected formula_in (L.Expr id expr ∷ older) = collected formula_in older ++ formula_in expr
collected formula_in (L.Known id statement word premises ∷ older) = collected formula_in older

-- the Horn formulas of the lines, by number from 0
abbrev pub horns_of : List Line → List (List (List Literal))
horns_of lines = collected horn_in lines

-- the dual Horn formulas of the lines, by number from 0
abbrev pub duals_of : List Line → List (List (List Literal))
duals_of lines = collected dual_in lines

-- the 2CNF formulas of the lines, by number from 0
abbrev pub twos_of : List Line → List (List (List Literal))
twos_of lines = collected two_in lines

-- the explicit sets of the lines, by number from 0
abbrev pub listed_of : List Line → List (List (List ℕ))
listed_of lines = collected listed_in lines

-- how many sets the store of the family has, where so many are nodes
abbrev pub count_of : List Line → FormulaFamily → ℕ → ℕ
count_of lines F.Horn nodes = length (horns_of lines)
count_of lines F.Dual nodes = length (duals_of lines)
count_of lines F.Two nodes = length (twos_of lines)
count_of lines F.States nodes = length (listed_of lines)
count_of lines F.Node nodes = nodes

-- what an operand names that speaks of the set of an `e` line: a constant, the formula by its
-- number in the store of its family, where each store has so many formulas already, or the node
abbrev pub named_by : (FormulaFamily → ℕ) → Expr → Which
named_by counts (E.Constant C.Empty) = S.Empty
named_by counts (E.Constant C.Start) = S.Start
named_by counts (E.Constant C.Goal) = S.Goal
named_by counts (E.Horn clauses) = S.Set (counts F.Horn)
named_by counts (E.Dual clauses) = S.Set (counts F.Dual)
named_by counts (E.Two clauses) = S.Set (counts F.Two)
named_by counts (E.States states) = S.Set (counts F.States)
named_by counts (E.Node node) = S.Set node
named_by counts (E.Not set) = S.Empty
named_by counts (E.And left right) = S.Empty
named_by counts (E.Or left right) = S.Empty
named_by counts (E.After set by) = S.Empty
named_by counts (E.Before set by) = S.Empty

-- the nodes that the lines name are among so many
abbrev pub NamesNodes : ℕ → List Line → Type 0
NamesNodes count lines = (id node : ℕ) → expr_at lines id ≡ Some (E.Node node) → node < count

-- what an operand names that speaks of the set with this identifier
abbrev pub which_at : List Line → ℕ → Which
which_at [] wanted = S.Empty
which_at (L.Acts id acts ∷ older) wanted = which_at older wanted
which_at (L.Expr id expr ∷ older) wanted =
    cond (nat_eq wanted id)
    (named_by (λ family. count_of older family 0) expr) (which_at older wanted)
which_at (L.Known id statement word premises ∷ older) wanted = which_at older wanted

-- the state is in the set of this number of the family
abbrev pub has_of : Setting → List Line → FormulaFamily → ℕ → List Bool → Bool
has_of setting lines F.Horn number state =
    in_clauses (slice_index_or (horns_of lines) number []) state
has_of setting lines F.Dual number state =
    in_clauses (slice_index_or (duals_of lines) number []) state
has_of setting lines F.Two number state =
    in_clauses (slice_index_or (twos_of lines) number []) state
has_of setting lines F.States number state =
    in_states (atoms setting.task) (slice_index_or (listed_of lines) number []) state
has_of setting lines F.Node number state = in_node setting.nodes number state

-- the query costs more than the budget
abbrev pub PassesBudget : Setting → List Line → FormulaFamily → Query → Type 0
PassesBudget setting lines F.Horn query =
    ClausesPass setting.task (λ number. length (slice_index_or (horns_of lines) number [])) query
    setting.budget
PassesBudget setting lines F.Dual query =
    ClausesPass setting.task (λ number. length (slice_index_or (duals_of lines) number [])) query
    setting.budget
PassesBudget setting lines F.Two query =
    ClausesPass setting.task (λ number. length (slice_index_or (twos_of lines) number [])) query
    setting.budget
PassesBudget setting lines F.States query =
    StatesPass (λ number. length (slice_index_or (listed_of lines) number [])) query setting.budget
PassesBudget setting lines F.Node query =
    LivePass setting.nodes setting.task query setting.budget

-- the operand that asks this
abbrev pub operand_of : List Line → ℕ × Bool → Operand
operand_of lines asked = record { which = which_at lines asked.0; id = asked.0; after = asked.1 }

-- the query of a question for an action, or without one
abbrev pub query_of : List Line → QuestionState → Option ℕ → Query
query_of lines question action = record {
  positive = map (λ asked. operand_of lines asked) question.positive;
  negative = map (λ asked. operand_of lines asked) question.negative;
  action = action;
}

-- the actions below this number that are in the action set, rising
abbrev pub actions_below : List Line → ℕ → ℕ → List (Option ℕ)
actions_below lines acts zero = []
actions_below lines acts (suc number) =
    actions_below lines acts number ++ (if acts_of lines acts number then Some number ∷ [] else [])

-- for which actions there is a query, in order: for each of the action set, or once without an
-- action
abbrev pub asked_actions : Strips → List Line → Option ℕ → List (Option ℕ)
asked_actions task lines None = None ∷ []
asked_actions task lines (Some acts) = actions_below lines acts (length task.actions)

-- the queries of a question, in order
abbrev pub queries_of : Strips → List Line → QuestionState → List Query
queries_of task lines question =
    map (query_of lines question) (asked_actions task lines question.acts)

-- The question is one that is decided: over explicit sets there has to be an anchor, whose states
-- are gone through.
abbrev pub IsOffered : List Line → QuestionState → Type 0
IsOffered lines question = IsOfferedOver question.family
  where
    IsOfferedOver : FormulaFamily → Type 0
    IsOfferedOver F.Horn = Unit {0}
    IsOfferedOver F.Dual = Unit {0}
    IsOfferedOver F.Two = Unit {0}
    IsOfferedOver F.States = HasAnchor (query_of lines question None)
    IsOfferedOver F.Node = Unit {0}
