-- The stores of a proof's formulas, and how they denote the lines.
use Rattle.std.specs.Prelude.{◌≡◌, ◌<◌, ◌++◌, ℕ, List, [], ◌∷◌, Option, Some, length, map}
use Rattle.std.specs.Prelude.{slice_get}
use Rattle.std.specs.Global.{Vec}
use Rattle.std.specs.List.{All}
use Rattle.hv_task.specs.Strips.{Strips, atoms}
use Rattle.hv_sets.specs.Kinds.{IsDualHornClause, IsHornClause, IsTwoClause}
use Rattle.hv_sets.specs.declared.literal.Literal.{Literal}
use Rattle.hv_sets.specs.declared.operand.Which.{Which}
use Rattle.hv_propagation.specs.Clauses.{AreClauses}
use Rattle.hv_formula.specs.Clausal.{FormulaState}
use Rattle.hv_explicit.specs.ListedStates.{AreStates, ListedStates}
use Rattle.hv_lines.specs.Numbering.{expr_count}
use Rattle.hv_lines.specs.Queries.{dual_in, horn_in, two_in, listed_in, duals_of, horns_of}
use Rattle.hv_lines.specs.Queries.{twos_of, listed_of}
use Rattle.hv_lines.specs.Queries.{named_by, which_at}
use Rattle.hv_lines.specs.declared.formula_family.FormulaFamily.{FormulaFamily}
use Rattle.hv_lines.specs.declared.formula_family.FormulaFamily.TheVariants as F
use Rattle.hv_lines.specs.declared.line.Expr.{Expr}
use Rattle.hv_lines.specs.declared.line.Expr.TheVariants as E
use Rattle.hv_lines.specs.declared.line.Line.{Line}
use Rattle.hv_lines.specs.declared.line.Line.TheVariants as L
use Rattle.hv_rows.specs.ActionRows.{AreActionRows}
use Rattle.hv_basic.specs.ChangeRows.{AreChangeRows}
use Rattle.hv_basic.specs.declared.change_rows.ChangeRows.{ChangeRows}

-- the stores of the four families that have one, what each `e` line's set is named by in the store
-- of its family, and the actions in rows by atoms of their preconditions, and by atoms that they
-- change, once they are made
pub record StoreState : Type 0 where
  pub horns : List FormulaState
  pub duals : List FormulaState
  pub twos : List FormulaState
  pub listed : List ListedStates
  pub names : List Which
  pub rows : Option (Vec (Vec ℕ))
  pub changes : Option ChangeRows

-- the formula of these clauses, over so many atoms
abbrev pub formula : ℕ → List (List Literal) → FormulaState
formula count clauses = record { atoms = count; clauses = clauses }

-- the explicit set of these states, over so many atoms
abbrev pub listing : ℕ → List (List ℕ) → ListedStates
listing count states = record { atoms = count; states = states }

-- how many formulas the store of each family has; the nodes have none
abbrev pub stored_counts : StoreState → FormulaFamily → ℕ
stored_counts store F.Horn = length store.horns
stored_counts store F.Dual = length store.duals
stored_counts store F.Two = length store.twos
stored_counts store F.States = length store.listed
stored_counts store F.Node = 0

-- the stores with the formula of one more `e` line
abbrev pub with_expr : ℕ → StoreState → Expr → StoreState
with_expr count store expr = record {
  horns = store.horns ++ map (formula count) (horn_in expr);
  duals = store.duals ++ map (formula count) (dual_in expr);
  twos = store.twos ++ map (formula count) (two_in expr);
  listed = store.listed ++ map (listing count) (listed_in expr);
  names = store.names ++ named_by (stored_counts store) expr ∷ [];
  rows = store.rows;
  changes = store.changes;
}

-- the stores with the formula of one more line, if it is an `e` line
abbrev pub with_line : ℕ → StoreState → Line → StoreState
with_line count store (L.Acts id acts) = store
with_line count store (L.Expr id expr) = with_expr count store expr
with_line count store (L.Known id statement word premises) = store

-- the stores with other rows
abbrev pub with_rows : StoreState → Option (Vec (Vec ℕ)) → Option ChangeRows → StoreState
with_rows store rows changes = record {
  horns = store.horns;
  duals = store.duals;
  twos = store.twos;
  listed = store.listed;
  names = store.names;
  rows = rows;
  changes = changes;
}

-- the rows, if they are made, have the actions of this task
abbrev pub AreRowsFor : Strips → Option (Vec (Vec ℕ)) → Type 0
AreRowsFor task rows =
    (made : Vec (Vec ℕ)) → rows ≡ Some made → AreActionRows task made.items

-- the same of the rows by atoms that are changed
abbrev pub AreChangesFor : Strips → Option ChangeRows → Type 0
AreChangesFor task changes = (made : ChangeRows) → changes ≡ Some made → AreChangeRows task made

-- the stores have the formulas of these lines, for this task
pub record IsStoreOf (task : Strips) (lines : List Line) (store : StoreState) : Type 0 where
  pub horns : store.horns ≡ map (formula (atoms task)) (horns_of lines)
  pub duals : store.duals ≡ map (formula (atoms task)) (duals_of lines)
  pub twos : store.twos ≡ map (formula (atoms task)) (twos_of lines)
  pub listed : store.listed ≡ map (listing (atoms task)) (listed_of lines)
  pub each : length store.names ≡ expr_count lines
  pub names : (id : ℕ) → id < expr_count lines → slice_get store.names id ≡ Some (which_at lines id)
  pub rows : AreRowsFor task store.rows
  pub changes : AreChangesFor task store.changes

-- the formula can be stored: it speaks of atoms below this number, and its clauses are of its kind
abbrev pub CanBeStored : ℕ → Expr → Type 0
CanBeStored count (E.Horn clauses) = AreClauses count clauses × All IsHornClause clauses
CanBeStored count (E.Dual clauses) = AreClauses count clauses × All IsDualHornClause clauses
CanBeStored count (E.Two clauses) = AreClauses count clauses × All IsTwoClause clauses
CanBeStored count (E.States states) = AreStates count states
CanBeStored count (E.Constant constant) = Unit {0}
CanBeStored count (E.Node node) = Unit {0}
CanBeStored count (E.Not set) = Unit {0}
CanBeStored count (E.And left right) = Unit {0}
CanBeStored count (E.Or left right) = Unit {0}
CanBeStored count (E.After set acts) = Unit {0}
CanBeStored count (E.Before set acts) = Unit {0}

-- the formula of the line, if it is an `e` line, can be stored
abbrev pub LineCanBeStored : ℕ → Line → Type 0
LineCanBeStored count (L.Acts id acts) = Unit {0}
LineCanBeStored count (L.Expr id expr) = CanBeStored count expr
LineCanBeStored count (L.Known id statement word premises) = Unit {0}
