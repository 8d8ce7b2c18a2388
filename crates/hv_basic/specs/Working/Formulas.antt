-- Formulas of the five families, and what is found of an inclusion between two of them.
use Rattle.std.specs.Prelude.{◌≡◌, ◌<◌, ℕ, Bool, false, List, Option, None, Some, length}
use Rattle.hv_sets.specs.Cost.{IsAnswer}
use Rattle.hv_sets.specs.declared.finding.Finding.{Finding}
use Rattle.hv_formula.specs.Clausal.{in_formula}
use Rattle.hv_formula.specs.Denial.{steps_of}
use Rattle.hv_explicit.specs.ListedStates.{full_cubes, in_listing}
use Rattle.hv_mixed.specs.Inclusion.{complement}
use Rattle.hv_bdd.specs.Nodes.{NodeList, in_node}
use Rattle.hv_bdd.specs.Paths.{path_cubes}
use Rattle.hv_lines.specs.Mixed.{clause_count, count_unless, either_count, listed_count}
use Rattle.hv_lines.specs.Shapes.{family_of}
use Rattle.hv_lines.specs.declared.line.Expr.{Expr}
use Rattle.hv_lines.specs.declared.line.Expr.TheVariants as E
use Rattle.hv_task.specs.Strips.{atoms}
use Rattle.hv_basic.specs.declared.case.Case.{Case}
use Rattle.hv_basic.specs.declared.any_formula.AnyFormula.{AnyFormula}
use Rattle.hv_basic.specs.declared.any_formula.AnyFormula.TheVariants as M

-- what an `e` line with this formula says
abbrev pub expr_of : AnyFormula → Expr
expr_of (M.Horn set) = E.Horn set.now.clauses
expr_of (M.Dual set) = E.Dual set.now.clauses
expr_of (M.Two set) = E.Two set.now.clauses
expr_of (M.States set) = E.States set.now.states
expr_of (M.Node set) = E.Node set.node

-- how many atoms the task has of whose states it is a set
abbrev pub formula_atoms : AnyFormula → ℕ
formula_atoms (M.Horn set) = set.now.atoms
formula_atoms (M.Dual set) = set.now.atoms
formula_atoms (M.Two set) = set.now.atoms
formula_atoms (M.States set) = set.now.atoms
formula_atoms (M.Node set) = set.nodes.now.atoms

-- the state is in the formula
abbrev pub formula_has : AnyFormula → List Bool → Bool
formula_has (M.Horn set) state = in_formula set.now state
formula_has (M.Dual set) state = in_formula set.now state
formula_has (M.Two set) state = in_formula set.now state
formula_has (M.States set) state = in_listing set.now state
formula_has (M.Node set) state = in_node set.nodes.now set.node state

-- how many steps the walk over the states outside the formula has, where there is one
abbrev pub outside_count : AnyFormula → Option ℕ
outside_count (M.Horn set) = Some (length (steps_of set.now))
outside_count (M.Dual set) = Some (length (steps_of set.now))
outside_count (M.Two set) = Some (length (steps_of set.now))
outside_count (M.States set) = None
outside_count (M.Node set) = Some (length (path_cubes set.nodes.now 0 set.node))

-- how many cubes the walk over the states of the formula has, where there is one
abbrev pub inside_count : AnyFormula → Option ℕ
inside_count (M.Horn set) = None
inside_count (M.Dual set) = None
inside_count (M.Two set) = None
inside_count (M.States set) = Some (length (full_cubes set.now))
inside_count (M.Node set) = Some (length (path_cubes set.nodes.now 1 set.node))

-- of how many cubes is asked whether another formula has their states, where this is asked: those
-- of the listed states, and those outside a formula in clauses
abbrev pub cubes_to_cover : AnyFormula → Option ℕ
cubes_to_cover (M.Horn set) = Some (length set.now.clauses)
cubes_to_cover (M.Dual set) = Some (length set.now.clauses)
cubes_to_cover (M.Two set) = Some (length set.now.clauses)
cubes_to_cover (M.States set) = Some (length set.now.states)
cubes_to_cover (M.Node set) = None

-- the state is in one of these cubes
abbrev pub is_to_cover : AnyFormula → List Bool → Bool
is_to_cover (M.Horn set) = complement (in_formula set.now)
is_to_cover (M.Dual set) = complement (in_formula set.now)
is_to_cover (M.Two set) = complement (in_formula set.now)
is_to_cover (M.States set) = in_listing set.now
is_to_cover (M.Node set) = λ _. false

-- the formula is over so many atoms, or it is one of these nodes
abbrev pub IsFormulaFor : ℕ → NodeList → AnyFormula → Type 0
IsFormulaFor atoms nodes (M.Horn set) = set.now.atoms ≡ atoms
IsFormulaFor atoms nodes (M.Dual set) = set.now.atoms ≡ atoms
IsFormulaFor atoms nodes (M.Two set) = set.now.atoms ≡ atoms
IsFormulaFor atoms nodes (M.States set) = set.now.atoms ≡ atoms
IsFormulaFor atoms nodes (M.Node set) = set.nodes.now ≡ nodes

-- the formula is one for the task or the nodes
abbrev pub IsFormulaOn : Case → AnyFormula → Type 0
IsFormulaOn case formula = IsFormulaFor (atoms case.task.now) case.diagrams.now formula

-- the two formulas are of different families
abbrev pub AreApart : AnyFormula → AnyFormula → Type 0
AreApart left right = family_of (expr_of left) ≡ family_of (expr_of right) → ⊥

-- the answer to an inclusion with this cost, if it is decided
abbrev pub IsFoundInclusion : ℕ → Option ℕ → ℕ → (List Bool → Bool) → Option Finding → List Bool
    → Type 0
IsFoundInclusion budget cost atoms clash None state = cost ≡ None
IsFoundInclusion budget cost atoms clash (Some found) state =
    (steps : ℕ) × (cost ≡ Some steps) × IsAnswer found (budget < steps) atoms clash state

-- what it costs to decide, by the walks, that the one formula is within the other
abbrev pub within_cost : AnyFormula → AnyFormula → Option ℕ
within_cost x y = either_count (listed_count (expr_of x)) (outside_count y)

-- what it costs to decide that no state is in both
abbrev pub apart_cost : AnyFormula → AnyFormula → Option ℕ
apart_cost x y =
    either_count (listed_count (expr_of x))
    (either_count (listed_count (expr_of y)) (either_count (inside_count x) (inside_count y)))

-- what it costs to decide that each state is in one of them
abbrev pub together_cost : AnyFormula → AnyFormula → Option ℕ
together_cost x y =
    count_unless (listed_count (expr_of x))
    (count_unless (listed_count (expr_of y))
    (either_count (clause_count (expr_of x)) (clause_count (expr_of y))))
