-- A formula of denials whose states are a dead end is one of which a block is good.
use Rattle.std.proofs.Common.{◌≡◌, ◌≤◌, ℕ, true, false, List, get_or, arith}
use Rattle.std.proofs.lemmas.List.Elements.{All-contains}
use Rattle.std.specs.List.{All}
use Rattle.hv_task.specs.Strips.{Strips, IsTask, atoms}
use Rattle.hv_sets.specs.Kinds.{IsHornClause}
use Rattle.hv_sets.specs.declared.literal.Literal.{Literal}
use Rattle.hv_lines.specs.Drafts.{IsGoodTable, draft_setting}
use Rattle.hv_lines.specs.Spelling.{FitsLiteral}
use Rattle.hv_lines.specs.declared.formula_family.FormulaFamily.TheVariants as F
use Rattle.hv_lines.specs.declared.line.Expr.TheVariants as E
use Rattle.hv_lines.proofs.Blocks.{IsDeadFormula, good_formula_proof}
use Rattle.hv_lines.proofs.Clausal.{horn_clausal}
use Rattle.hv_lines.proofs.Drafting.{formed_expr, good_expr}
use Rattle.hv_lines.proofs.Lengths.{IsSmall, short_horn}
use Rattle.hv_reach.specs.Written.{IsDenial, horn_proof}
use Rattle.hv_reach.specs.Working.Written.{IsDeadEnd, Separates}

-- what a clause of denials is: Horn, small, and over the task's atoms

denial_horn : (n : ℕ) (clause : List Literal) → IsDenial n clause → IsHornClause clause
denial_horn n clause denial = λ l k at also positive.
    λ _. let no : l.positive ≡ false = All-contains
    (λ x. x.positive ≡ false) clause l denial.denies at in absurd (cc (positive, no))

denial_small : (n : ℕ) (clause : List Literal) → n ≤ 65535 → IsDenial n clause → IsSmall clause
denial_small n clause few denial = record {
  few = denial.few;
  atoms = λ i d less. let below = denial.below i d less in omega (arith, below, few);
}

denial_fits : (n : ℕ) (clause : List Literal) → n ≤ 65535 → IsDenial n clause
    → All FitsLiteral clause
denial_fits n clause few denial = λ i d less. let below = denial.below i d less in
    omega (arith, below, few)

module _ (task : Strips) (is_task : IsTask task) (clauses : List (List Literal)) where
  pub horn_dead : IsDeadEnd task clauses → IsDeadFormula task true (E.Horn clauses) clauses
  horn_dead dead = record {
    family = F.Horn;
    clausal = horn_clausal task clauses;
    few = dead.few;
    ends = dead.ends;
    next = λ lines id id_fits id_is. record {
      good = good_expr (draft_setting task) lines id (E.Horn clauses)
          (formed_expr (draft_setting task) lines id (E.Horn clauses) id_fits (
            omega (arith, dead.few),
            λ i d less. denial_fits (atoms task) (get_or clauses i d)
                is_task.few_atoms (dead.denials i d less),
          )
          id_is tt
          (λ i d less. (dead.denials i d less).below)
          (λ i d less. denial_horn (atoms task) (get_or clauses i d) (dead.denials i d less)));
      short = short_horn id clauses id_fits
          (λ i d less. denial_small (atoms task) (get_or clauses i d) is_task.few_atoms
          (dead.denials i d less)) dead.few;
    };
  }

  -- the sixteen lines are good
  pub good_horn_proof : Separates task clauses → IsGoodTable task (horn_proof clauses)
  good_horn_proof separates = good_formula_proof task true (E.Horn clauses) clauses
      (horn_dead separates.dead) separates.starts
