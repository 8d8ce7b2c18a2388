-- When the line is good that an explicit set is within a formula of another family, or within the
-- negation of one.
use Rattle.std.proofs.Common.{◌≡◌, ℕ, ◌≤◌, ◌↔◌, Bool, true, false, not, List, [], Some, length}
use Rattle.std.proofs.Common.{refl, subst, inl}
use Rattle.std.proofs.lemmas.Bool.{and_parts, false_from_ne_true, not-false, not-true}
use Rattle.hv_task.specs.Strips.{IsState, atoms}
use Rattle.hv_sets.proofs.Listed.{in_states-Decides}
use Rattle.hv_lines.specs.Good.{IsGood}
use Rattle.hv_lines.specs.Working.Good.{IsFormed}
use Rattle.hv_lines.specs.Literals.{IsFormula}
use Rattle.hv_lines.specs.Meaning.{acts_of, holds, sets_of}
use Rattle.hv_lines.specs.Mixed.{cost_of, in_line_formula, is_between}
use Rattle.hv_lines.specs.Numbering.{IsTable, expr_at}
use Rattle.hv_lines.specs.Setting.{Setting}
use Rattle.hv_lines.specs.Shapes.{AreTwo, IsLiteralOf, OfTwo, family_of}
use Rattle.hv_lines.specs.Verdicts.{IsVerdict}
use Rattle.hv_lines.specs.declared.formula_family.FormulaFamily.{FormulaFamily}
use Rattle.hv_lines.specs.declared.formula_family.FormulaFamily.TheVariants as F
use Rattle.hv_lines.specs.declared.line.Expr.{Expr}
use Rattle.hv_lines.specs.declared.line.Expr.TheVariants as E
use Rattle.hv_lines.specs.declared.line.Line.{Line}
use Rattle.hv_lines.specs.declared.line.Line.TheVariants as L
use Rattle.hv_lines.specs.declared.line.Statement.TheVariants as T
use Rattle.hv_lines.specs.declared.line.Word.TheVariants as W
use Rattle.hv_lines.specs.declared.verdict.Verdict.TheVariants as V
use Rattle.hv_lines.proofs.Judging.{good_basic}
use Rattle.hv_lines.proofs.Laws.{set_in, set_out}
use Rattle.hv_lines.proofs.Bools.{not_out}

-- a formula that isn't explicit, with its family
abbrev pub IsOther : Expr → FormulaFamily → Type 0
IsOther expr family = IsFormula expr × (family_of expr ≡ Some family) × (F.States ≡ family → ⊥)

module _ (setting : Setting) (lines : List Line) where
  abbrev Inside : Expr → List Bool → Type 0
  Inside expr state = holds setting.task setting.nodes (acts_of lines)
      (sets_of setting.task setting.nodes lines) expr state

  -- a state is in a formula exactly where the test says so
  formula_in : (expr : Expr) → IsFormula expr → (state : List Bool)
      → (in_line_formula setting expr state ≡ true) ↔ Inside expr state
  formula_in (E.Horn clauses) is state = (λ e. e, λ e. e)
  formula_in (E.Dual clauses) is state = (λ e. e, λ e. e)
  formula_in (E.Two clauses) is state = (λ e. e, λ e. e)
  formula_in (E.States states) is state = in_states-Decides (atoms setting.task) states state
  formula_in (E.Node node) is state = (λ e. e, λ e. e)
  formula_in (E.Constant constant) is state = absurd is
  formula_in (E.Not set) is state = absurd is
  formula_in (E.And x y) is state = absurd is
  formula_in (E.Or x y) is state = absurd is
  formula_in (E.After x y) is state = absurd is
  formula_in (E.Before x y) is state = absurd is

  module _ (table : IsTable lines) (id left right set : ℕ) (states : List (List ℕ)) (expr : Expr)
      (family : FormulaFamily)
      (at_left : expr_at lines left ≡ Some (E.States states))
      (at_set : expr_at lines set ≡ Some expr) (other : IsOther expr family)
      (few : length states ≤ setting.budget)
      (formed : IsFormed setting lines (L.Known id (T.Sub left right) W.B4 []))
      (within : (state : List Bool) → IsState setting.task state
      → sets_of setting.task setting.nodes lines left state
      → sets_of setting.task setting.nodes lines right state) where
    in_left : (state : List Bool) → in_line_formula setting (E.States states) state ≡ true
        → sets_of setting.task setting.nodes lines left state
    in_left state e =
        set_in setting.task setting.nodes lines left (E.States states) table at_left state
        ((formula_in (E.States states) tt state).0 e)

    two : (sign : Bool) → IsLiteralOf lines right set sign
        → AreTwo lines left right (left, true) (set, sign)
    two sign literal = record {
      left_is = (refl, (E.States states, at_left, inl tt));
      right_is = literal;
      families = (
        F.States,
        family,
        (E.States states, at_left, refl),
        (expr, at_set, other.1),
        other.2,
      );
    }

    good_by : (sign : Bool) (literal : IsLiteralOf lines right set sign)
        → cost_of setting.nodes (E.States states, true) (expr, sign) ≡ Some (length states)
        → ((state : List Bool) → IsState setting.task state
        → is_between setting (E.States states, true) (expr, sign) state ≡ true → ⊥)
        → IsGood setting lines (L.Known id (T.Sub left right) W.B4 [])
    good_by sign literal cost none =
        good_basic setting lines id (T.Sub left right) W.B4 [] formed
        (λ rule. absurd rule) tt true_verdict
      where
        true_verdict : IsVerdict setting lines (T.Sub left right) W.B4 V.True
        true_verdict = (
          OfTwo (left, true) (set, sign),
          (refl, two sign literal),
          (
            E.States states,
            expr,
            at_left,
            at_set,
            (
              (length states, cost, few),
              λ state is_state. false_from_ne_true
                  (is_between setting (E.States states, true) (expr, sign) state)
                  (none state is_state),
            ),
          ),
        )

    -- within the formula itself, or within its negation
    pub good_mixed : (sign : Bool) → IsLiteralOf lines right set sign
        → IsGood setting lines (L.Known id (T.Sub left right) W.B4 [])
    good_mixed true literal =
        good_by true literal refl
        (λ state is_state clash.
        not_out (in_line_formula setting expr state)
        (and_parts (in_line_formula setting (E.States states) state)
        (not (in_line_formula setting expr state)) clash).1
        ((formula_in expr other.0 state).1
        (set_out setting.task setting.nodes lines set expr table at_set state
        (subst (λ s. sets_of setting.task setting.nodes lines s state) literal.0
        (within state is_state (in_left state
        (and_parts (in_line_formula setting (E.States states) state)
        (not (in_line_formula setting expr state)) clash).0))))))
    good_mixed false literal =
        good_by false literal refl
        (λ state is_state clash.
        set_out setting.task setting.nodes lines right (E.Not set) table literal.0 state
        (within state is_state
        (in_left state (and_parts (in_line_formula setting (E.States states) state)
        (not (not (in_line_formula setting expr state))) clash).0))
        (set_in setting.task setting.nodes lines set expr table at_set state
        ((formula_in expr other.0 state).0
        (not-false (in_line_formula setting expr state)
        (not-true (not (in_line_formula setting expr state))
        (and_parts (in_line_formula setting (E.States states) state)
        (not (not (in_line_formula setting expr state))) clash).1)))))
