-- The formula of the greatest trap is one of which a block is good: the states outside it are a
-- dead end.
use Rattle.std.proofs.Common.{◌≤◌, false, List, length, arith}
use Rattle.std.proofs.lemmas.Bool.{both_ways, false_from_ne_true}
use Rattle.hv_task.specs.State.{successor}
use Rattle.hv_task.specs.Strips.{Strips}
use Rattle.hv_sets.specs.Truth.{in_clauses}
use Rattle.hv_sets.specs.declared.literal.Literal.{Literal}
use Rattle.hv_lines.specs.Drafts.{draft_setting}
use Rattle.hv_lines.specs.Spelling.{fields_of}
use Rattle.hv_lines.specs.declared.formula_family.FormulaFamily.TheVariants as F
use Rattle.hv_lines.specs.declared.line.Expr.TheVariants as E
use Rattle.hv_lines.specs.declared.line.Line.TheVariants as L
use Rattle.hv_lines.proofs.Blocks.{IsDeadFormula}
use Rattle.hv_lines.proofs.Clausal.{two_clausal}
use Rattle.hv_lines.proofs.Drafting.{formed_expr, good_expr}
use Rattle.hv_lines.proofs.Lengths.{clauses_short, decimal_short, short_two, weight}
use Rattle.hv_trap.proofs.Formulas.{IsTrapFormula, formula_fits, formula_small, formula_two}

module _ (task : Strips) (clauses : List (List Literal)) (formula : IsTrapFormula task clauses)
  where
    pub trap_dead : IsDeadFormula task false (E.Two clauses) clauses
    trap_dead = record {
      family = F.Two;
      clausal = two_clausal task clauses;
      few = omega (arith, formula.few);
      ends = record {
        stays = λ number a named state is_state applies breaks.
            false_from_ne_true (in_clauses clauses (successor a state)) (λ all.
            both_ways (in_clauses clauses state) breaks
            (formula.stays number a named state is_state applies all));
        goalless = λ state is_state breaks is_goal.
            both_ways (in_clauses clauses state) breaks (formula.goalless state is_goal);
      };
      next = λ lines id id_fits id_is. record {
        good = good_expr (draft_setting task) lines id (E.Two clauses)
            (formed_expr (draft_setting task) lines id (E.Two clauses) id_fits
            (omega (arith, formula.few), formula_fits task clauses formula) id_is tt
            formula.below (formula_two task clauses formula));
        short = short_two id clauses id_fits (formula_small task clauses formula)
            (omega (arith, formula.few));
      };
    }

    -- how long its line is in a proof
    pub trap_light : weight (fields_of (L.Expr 3 (E.Two clauses))) ≤ 7400000
    trap_light =
        omega (
          arith,
          decimal_short 3 (omega arith),
          decimal_short (length clauses) (omega (arith, formula.few)),
          clauses_short clauses (formula_small task clauses formula),
          formula.few,
        )
