-- The lines of a proof are determined by the task; they conclude, and are good where the initial
-- state satisfies a conjunction of the greatest trap.
use Rattle.std.proofs.Common.{◌≡◌, ◌≤◌, ◌∙◌, Bool, true, false, List, length, sym, ap, subst}
use Rattle.std.proofs.Common.{arith}
use Rattle.std.proofs.lemmas.Bool.{both_ways}
use Rattle.hv_task.specs.Strips.{Strips, atoms, start_state}
use Rattle.hv_lines.specs.Drafts.{IsGoodTable, IsModest}
use Rattle.hv_lines.specs.Judged.{Concludes}
use Rattle.hv_lines.specs.declared.line.Expr.TheVariants as E
use Rattle.hv_lines.specs.declared.line.Line.{Line}
use Rattle.hv_lines.proofs.Blocks.{formula_concludes, formula_modest, good_formula_proof}
use Rattle.hv_sets.specs.Truth.{in_clauses}
use Rattle.hv_sets.specs.declared.literal.Literal.{Literal}
use Rattle.hv_propagation.specs.Clauses.{AreClauses}
use Rattle.hv_trap.specs.Trap.{AreTrapClauses, IsSatisfied}
use Rattle.hv_trap.specs.Written.{IsTrapProof, trap_proof}
use Rattle.hv_trap.proofs.Block.{trap_dead, trap_light}
use Rattle.hv_trap.proofs.Enclosing.{enclose_below}
use Rattle.hv_trap.proofs.Formulas.{IsTrapFormula, trap_formula}
use Rattle.hv_trap.proofs.Trapped.{trap_encloses, trap_once, trap_satisfied}

pub trap_proof_once : (task : Strips) (x y : List Line) → IsTrapProof task x → IsTrapProof task y
    → x ≡ y
trap_proof_once task x y (c, trap, is) (d, also, at) = is
    ∙ (ap trap_proof (trap_once task c d trap also) ∙ sym at)

pub trap_proof_size : (task : Strips) (lines : List Line) → IsTrapProof task lines
    → length lines ≡ 17
trap_proof_size task lines (c, trap, is) = ap length is

pub trap_proof_good : (task : Strips) (lines : List Line) → atoms task ≤ 64
    → IsSatisfied task (start_state task)
    → IsTrapProof task lines → IsGoodTable task lines
trap_proof_good task lines few satisfied (c, trap, is) =
    subst (IsGoodTable task) (sym is)
    (good_formula_proof task false (E.Two c) c (trap_dead task c (trap_formula task c few trap))
    ((trap_satisfied task c trap (start_state task)).1 satisfied))

pub trap_proof_ends : (task : Strips) (lines : List Line) → IsTrapProof task lines → Concludes lines
trap_proof_ends task lines (c, trap, is) = subst Concludes (sym is)
    (formula_concludes task false (E.Two c))

-- what it costs, and how long its lines are
pub trap_modest : (task : Strips) (lines : List Line) → atoms task ≤ 64
    → IsSatisfied task (start_state task) → IsTrapProof task lines
    → IsModest task 6112 lines
trap_modest task lines few satisfied (c, trap, is) =
    let formula : IsTrapFormula task c = trap_formula task c few trap in
    subst (IsModest task 6112) (sym is)
    (formula_modest task false (E.Two c) c (trap_dead task c formula)
    ((trap_satisfied task c trap (start_state task)).1 satisfied) 6112 formula.few (omega arith)
    (trap_light task c formula))

-- what the test of the initial state tells
module _ (task : Strips) (clauses : List (List Literal)) (trap : AreTrapClauses task clauses)
    (start : List Bool) (is_start : start ≡ start_state task) where
  pub start_below : length start ≡ atoms task → AreClauses (length start) clauses
  start_below size = subst (λ n. AreClauses n clauses) (sym size)
      (enclose_below task trap.0 clauses (trap_encloses task clauses trap))

  module _ (b : Bool) (tells : b ≡ in_clauses clauses start) where
    pub start_out : b ≡ true → IsSatisfied task (start_state task) → ⊥
    start_out is satisfied =
        both_ways (in_clauses clauses start)
        (ap (in_clauses clauses) is_start ∙ (trap_satisfied task clauses trap (start_state task)).1
        satisfied)
        (sym tells ∙ is)

    pub start_breaks : b ≡ false → in_clauses clauses (start_state task) ≡ false
    start_breaks is = sym (ap (in_clauses clauses) is_start) ∙ (sym tells ∙ is)

    pub start_in : b ≡ false → IsSatisfied task (start_state task)
    start_in is = (trap_satisfied task clauses trap (start_state task)).0 (start_breaks is)
