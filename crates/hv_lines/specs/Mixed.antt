-- Inclusions between formulas of two families, each plain or negated: when a state is a
-- counterexample, which inclusions are decided, and what that costs.
use Rattle.std.specs.Prelude.{◌&&◌, ℕ, Bool, true, false, not, List, Option, None, Some, cond}
use Rattle.std.specs.Prelude.{length}
use Rattle.hv_task.specs.Strips.{atoms}
use Rattle.hv_sets.specs.Truth.{in_clauses, in_states}
use Rattle.hv_bdd.specs.Nodes.{NodeList, in_node}
use Rattle.hv_bdd.specs.Paths.{paths}
use Rattle.hv_lines.specs.Setting.{Setting}
use Rattle.hv_lines.specs.declared.line.Expr.{Expr}
use Rattle.hv_lines.specs.declared.line.Expr.TheVariants as E

-- the state is in the formula of the line; nothing else is a formula
abbrev pub in_line_formula : Setting → Expr → List Bool → Bool
in_line_formula setting (E.Constant constant) state = false
in_line_formula setting (E.Horn clauses) state = in_clauses clauses state
in_line_formula setting (E.Dual clauses) state = in_clauses clauses state
in_line_formula setting (E.Two clauses) state = in_clauses clauses state
in_line_formula setting (E.States states) state = in_states (atoms setting.task) states state
in_line_formula setting (E.Node node) state = in_node setting.nodes node state
in_line_formula setting (E.Not set) state = false
in_line_formula setting (E.And left right) state = false
in_line_formula setting (E.Or left right) state = false
in_line_formula setting (E.After set by) state = false
in_line_formula setting (E.Before set by) state = false

-- a side of the inclusion: a formula itself (true), or its negation (false)
abbrev pub Signed : Type 0
Signed = Expr × Bool

-- the state is in the side: in its formula, or outside that where it is negated
abbrev pub in_signed : Setting → Signed → List Bool → Bool
in_signed setting (expr, sign) state =
    cond sign (in_line_formula setting expr state) (not (in_line_formula setting expr state))

-- the state is a counterexample to the inclusion: it is in the left side and not in the right one
abbrev pub is_between : Setting → Signed → Signed → List Bool → Bool
is_between setting left right state =
    in_signed setting left state && not (in_signed setting right state)

-- how many states an explicit set lists
abbrev pub listed_count : Expr → Option ℕ
listed_count (E.Constant constant) = None
listed_count (E.Horn clauses) = None
listed_count (E.Dual clauses) = None
listed_count (E.Two clauses) = None
listed_count (E.States states) = Some (length states)
listed_count (E.Node node) = None
listed_count (E.Not set) = None
listed_count (E.And left right) = None
listed_count (E.Or left right) = None
listed_count (E.After set by) = None
listed_count (E.Before set by) = None

-- how many clauses a Horn, dual Horn or 2CNF formula has
abbrev pub clause_count : Expr → Option ℕ
clause_count (E.Constant constant) = None
clause_count (E.Horn clauses) = Some (length clauses)
clause_count (E.Dual clauses) = Some (length clauses)
clause_count (E.Two clauses) = Some (length clauses)
clause_count (E.States states) = None
clause_count (E.Node node) = None
clause_count (E.Not set) = None
clause_count (E.And left right) = None
clause_count (E.Or left right) = None
clause_count (E.After set by) = None
clause_count (E.Before set by) = None

-- how many paths lead from a node to the end 0 or 1
abbrev pub path_count : NodeList → ℕ → Expr → Option ℕ
path_count nodes end (E.Constant constant) = None
path_count nodes end (E.Horn clauses) = None
path_count nodes end (E.Dual clauses) = None
path_count nodes end (E.Two clauses) = None
path_count nodes end (E.States states) = None
path_count nodes end (E.Node node) = Some (length (paths nodes end node))
path_count nodes end (E.Not set) = None
path_count nodes end (E.And left right) = None
path_count nodes end (E.Or left right) = None
path_count nodes end (E.After set by) = None
path_count nodes end (E.Before set by) = None

-- the first of two counts that is there
abbrev pub either_count : Option ℕ → Option ℕ → Option ℕ
either_count (Some count) other = Some count
either_count None other = other

-- a count, if there is none of another kind
abbrev pub count_unless : Option ℕ → Option ℕ → Option ℕ
count_unless (Some other) count = None
count_unless None count = count

-- What it costs to decide that each state of the one formula is in the other: the states of the
-- one if it is explicit, or else the clauses of the other or its paths to 0. It isn't decided
-- where the other alone is explicit.
abbrev pub cost_within : NodeList → Expr → Expr → Option ℕ
cost_within nodes x y =
    either_count (listed_count x) (either_count (clause_count y) (path_count nodes 0 y))

-- What it costs to decide that no state is in both: the states of the explicit one, or else the
-- paths to 1 of the diagram. It isn't decided where there is neither.
abbrev pub cost_apart : NodeList → Expr → Expr → Option ℕ
cost_apart nodes x y =
    either_count (listed_count x)
    (either_count (listed_count y) (either_count (path_count nodes 1 x) (path_count nodes 1 y)))

-- What it costs to decide that each state is in the one or in the other: the clauses of the one,
-- or of the other where the one is a diagram. It isn't decided where one is explicit.
abbrev pub cost_together : Expr → Expr → Option ℕ
cost_together x y =
    count_unless (listed_count x)
    (count_unless (listed_count y) (either_count (clause_count x) (clause_count y)))

-- What it costs to decide that the left side is within the right one, where that is decided. With
-- both negated, the right formula is claimed to be within the left one.
abbrev pub cost_of : NodeList → Signed → Signed → Option ℕ
cost_of nodes (x, true) (y, true) = cost_within nodes x y
cost_of nodes (x, false) (y, false) = cost_within nodes y x
cost_of nodes (x, true) (y, false) = cost_apart nodes x y
cost_of nodes (x, false) (y, true) = cost_together x y
