-- Inclusions with both sides plain, with both negated, and of a plain side in a negated one: what
-- is found of the formulas is what is claimed of their lines.
use Rattle.std.proofs.Common.{◌≡◌, ℕ, ◌∙◌, ◌&&◌, Bool, true, false, not, List, Option, Some, length}
use Rattle.std.proofs.Common.{None, refl, ap, subst}
use Rattle.std.proofs.lemmas.List.{length-map}
use Rattle.hv_task.specs.Strips.{Strips, atoms}
use Rattle.hv_sets.specs.Cubes.{cube_of}
use Rattle.hv_sets.specs.Truth.{in_states}
use Rattle.hv_sets.specs.declared.finding.Finding.{Finding}
use Rattle.hv_formula.specs.Denial.{denial_step}
use Rattle.hv_bdd.specs.Nodes.{NodeList, in_node}
use Rattle.hv_bdd.specs.Paths.{paths}
use Rattle.hv_mixed.specs.Inclusion.{complement, difference}
use Rattle.hv_lines.specs.Mixed.{clause_count, cost_of, either_count, in_line_formula, is_between}
use Rattle.hv_lines.specs.Mixed.{listed_count, path_count}
use Rattle.hv_lines.specs.Setting.{setting_of}
use Rattle.hv_basic.specs.Working.Formulas.{IsFormulaFor, IsFoundInclusion, expr_of, formula_atoms}
use Rattle.hv_basic.specs.Working.Formulas.{apart_cost, formula_has, inside_count, outside_count}
use Rattle.hv_basic.specs.Working.Formulas.{within_cost}
use Rattle.hv_basic.specs.declared.any_formula.AnyFormula.{AnyFormula}
use Rattle.hv_basic.specs.declared.any_formula.AnyFormula.TheVariants as M

both_turned : (a b : Bool) → (b && not a) ≡ (not a && not (not b))
both_turned true true = refl
both_turned true false = refl
both_turned false true = refl
both_turned false false = refl

-- counts of cubes matter only where neither side lists states
unlisted_same : (a b p q p' q' : Option ℕ) → (a ≡ None → p ≡ p') → (b ≡ None → q ≡ q')
    → either_count a (either_count b (either_count p q))
    ≡ either_count a (either_count b (either_count p' q'))
unlisted_same (Some count) b p q p' q' first second = refl
unlisted_same None (Some count) p q p' q' first second = refl
unlisted_same None None p q p' q' first second =
    ap (λ o. either_count o q) (first refl) ∙ ap (either_count p') (second refl)

module _ (task : Strips) (nodes : NodeList) (over : nodes.atoms ≡ atoms task) (budget : ℕ) where
  atoms_are : (x : AnyFormula) → IsFormulaFor (atoms task) nodes x → formula_atoms x ≡ atoms task
  atoms_are (M.Horn set) is = is
  atoms_are (M.Dual set) is = is
  atoms_are (M.Two set) is = is
  atoms_are (M.States set) is = is
  atoms_are (M.Node set) is = ap (λ (n : NodeList). n.atoms) is ∙ over

  has_is : (x : AnyFormula) → IsFormulaFor (atoms task) nodes x → (state : List Bool)
      → formula_has x state ≡ in_line_formula (setting_of task nodes budget) (expr_of x) state
  has_is (M.Horn set) is state = refl
  has_is (M.Dual set) is state = refl
  has_is (M.Two set) is state = refl
  has_is (M.States set) is state = ap (λ n. in_states n set.now.states state) is
  has_is (M.Node set) is state = ap (λ n. in_node n set.node state) is

  outside_is : (x : AnyFormula) → IsFormulaFor (atoms task) nodes x
      → outside_count x
      ≡ either_count (clause_count (expr_of x)) (path_count nodes 0 (expr_of x))
  outside_is (M.Horn set) is = ap Some (length-map set.now.clauses denial_step)
  outside_is (M.Dual set) is = ap Some (length-map set.now.clauses denial_step)
  outside_is (M.Two set) is = ap Some (length-map set.now.clauses denial_step)
  outside_is (M.States set) is = refl
  outside_is (M.Node set) is =
      ap Some (length-map (paths set.nodes.now 0 set.node) cube_of
      ∙ ap (λ n. length (paths n 0 set.node)) is)

  inside_is : (x : AnyFormula) → IsFormulaFor (atoms task) nodes x → listed_count (expr_of x) ≡ None
      → inside_count x ≡ path_count nodes 1 (expr_of x)
  inside_is (M.Horn set) is none = refl
  inside_is (M.Dual set) is none = refl
  inside_is (M.Two set) is none = refl
  inside_is (M.States set) is none = absurd (cc (none))
  inside_is (M.Node set) is none =
      ap Some (length-map (paths set.nodes.now 1 set.node) cube_of
      ∙ ap (λ n. length (paths n 1 set.node)) is)

  module _ (x y : AnyFormula) (x_is : IsFormulaFor (atoms task) nodes x)
      (y_is : IsFormulaFor (atoms task) nodes y) where
    abbrev Between : List Bool → Bool
    Between state = is_between (setting_of task nodes budget) (expr_of x, false) (expr_of y, false)
        state

    clash_is : difference (formula_has y) (formula_has x) ≡ Between
    clash_is = λ i state. (ap (λ b. b && not (formula_has x state)) (has_is y y_is state)
        ∙ (ap (λ a. in_line_formula (setting_of task nodes budget) (expr_of y) state && not a)
        (has_is x x_is state)
        ∙ both_turned (in_line_formula (setting_of task nodes budget) (expr_of x) state)
        (in_line_formula (setting_of task nodes budget) (expr_of y) state))) i

    found_turned : (found : Option Finding) (state : List Bool)
        → IsFoundInclusion budget (within_cost y x) (formula_atoms y)
        (difference (formula_has y) (formula_has x)) found state
        → IsFoundInclusion budget (cost_of nodes (expr_of x, false) (expr_of y, false)) (atoms task)
        Between found state
    found_turned found state given =
        subst (λ (clash : List Bool → Bool). IsFoundInclusion budget
        (cost_of nodes (expr_of x, false) (expr_of y, false)) (atoms task) clash found state)
        clash_is
        (subst (λ n. IsFoundInclusion budget
        (cost_of nodes (expr_of x, false) (expr_of y, false)) n
        (difference (formula_has y) (formula_has x)) found state) (atoms_are y y_is)
        (subst (λ cost. IsFoundInclusion budget cost (formula_atoms y)
        (difference (formula_has y) (formula_has x)) found state)
        (ap (either_count (listed_count (expr_of y))) (outside_is x x_is)) given))

    pub found_negated : (s t : Bool) → s ≡ false → t ≡ false → (found : Option Finding)
        (state : List Bool)
        → IsFoundInclusion budget (within_cost y x) (formula_atoms y)
        (difference (formula_has y) (formula_has x)) found state
        → IsFoundInclusion budget (cost_of nodes (expr_of x, s) (expr_of y, t)) (atoms task)
        (is_between (setting_of task nodes budget) (expr_of x, s) (expr_of y, t)) found state
    found_negated false false e f found state given = found_turned found state given
    found_negated true t e f found state given = absurd (cc (e))
    found_negated false true e f found state given = absurd (cc (f))

    -- the line of the left side holds this of a state, and that of the right one that
    both_are : (turn : Bool → Bool) (state : List Bool)
        → (formula_has x state && turn (formula_has y state))
        ≡ (in_line_formula (setting_of task nodes budget) (expr_of x) state
        && turn (in_line_formula (setting_of task nodes budget) (expr_of y) state))
    both_are turn state =
        ap (λ a. a && turn (formula_has y state)) (has_is x x_is state)
        ∙ ap (λ b. in_line_formula (setting_of task nodes budget) (expr_of x) state && turn b)
        (has_is y y_is state)

    -- what is found of the formulas is so of their lines, if costs and clashes are the same
    found_as : (cost own : Option ℕ) (clash claimed : List Bool → Bool) → own ≡ cost
        → ((state : List Bool) → clash state ≡ claimed state) → (found : Option Finding)
        (state : List Bool) → IsFoundInclusion budget own (formula_atoms x) clash found state
        → IsFoundInclusion budget cost (atoms task) claimed found state
    found_as cost own clash claimed same alike found state given =
        subst (λ (all : List Bool → Bool). IsFoundInclusion budget cost (atoms task) all found state)
        (λ i state. alike state i)
        (subst (λ n. IsFoundInclusion budget cost n clash found state) (atoms_are x x_is)
        (subst (λ o. IsFoundInclusion budget o (formula_atoms x) clash found state) same given))

    pub found_plain : (s t : Bool) → s ≡ true → t ≡ true → (found : Option Finding)
        (state : List Bool)
        → IsFoundInclusion budget (within_cost x y) (formula_atoms x)
        (difference (formula_has x) (formula_has y)) found state
        → IsFoundInclusion budget (cost_of nodes (expr_of x, s) (expr_of y, t)) (atoms task)
        (is_between (setting_of task nodes budget) (expr_of x, s) (expr_of y, t)) found state
    found_plain true true e f found state given =
        found_as (cost_of nodes (expr_of x, true) (expr_of y, true)) (within_cost x y)
        (difference (formula_has x) (formula_has y))
        (is_between (setting_of task nodes budget) (expr_of x, true) (expr_of y, true))
        (ap (either_count (listed_count (expr_of x))) (outside_is y y_is)) (both_are not) found state
        given
    found_plain false t e f found state given = absurd (cc (e))
    found_plain true false e f found state given = absurd (cc (f))

    pub found_apart : (s t : Bool) → s ≡ true → t ≡ false → (found : Option Finding)
        (state : List Bool)
        → IsFoundInclusion budget (apart_cost x y) (formula_atoms x)
        (difference (formula_has x) (complement (formula_has y))) found state
        → IsFoundInclusion budget (cost_of nodes (expr_of x, s) (expr_of y, t)) (atoms task)
        (is_between (setting_of task nodes budget) (expr_of x, s) (expr_of y, t)) found state
    found_apart true false e f found state given =
        found_as (cost_of nodes (expr_of x, true) (expr_of y, false)) (apart_cost x y)
        (difference (formula_has x) (complement (formula_has y)))
        (is_between (setting_of task nodes budget) (expr_of x, true) (expr_of y, false))
        (unlisted_same (listed_count (expr_of x)) (listed_count (expr_of y)) (inside_count x)
        (inside_count y) (path_count nodes 1 (expr_of x)) (path_count nodes 1 (expr_of y))
        (inside_is x x_is) (inside_is y y_is)) (both_are (λ b. not (not b))) found state given
    found_apart false t e f found state given = absurd (cc (e))
    found_apart true true e f found state given = absurd (cc (f))
