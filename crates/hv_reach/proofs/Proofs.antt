-- The lines of a proof are determined by the task, and they are good and conclude where the goal is
-- excluded.
use Rattle.std.proofs.Common.{◌≡◌, ◌≤◌, ◌∙◌, true, List, length, sym, ap, subst}
use Rattle.std.specs.Cmp.Derive.{one_truth}
use Rattle.hv_task.specs.Strips.{Strips, IsTask, atoms}
use Rattle.hv_lines.specs.Drafts.{IsGoodTable}
use Rattle.hv_lines.specs.Judged.{Concludes}
use Rattle.hv_lines.specs.declared.line.Expr.TheVariants as E
use Rattle.hv_lines.specs.declared.line.Line.{Line}
use Rattle.hv_lines.proofs.Blocks.{formula_concludes}
use Rattle.hv_reach.specs.Written.{IsPairsProof, IsRelaxedProof, PairsExclude, RelaxedExcludes}
use Rattle.hv_reach.specs.Written.{horn_proof, pairs_formula, relaxed_formula}
use Rattle.hv_reach.proofs.Block.{good_horn_proof}
use Rattle.hv_reach.proofs.Denials.{pairs_separates, relaxed_separates}

pub relaxed_good : (task : Strips) (lines : List Line) → IsTask task → RelaxedExcludes task
    → IsRelaxedProof task lines
    → IsGoodTable task lines
relaxed_good task lines is_task out (r, each, is) =
    subst (IsGoodTable task) (sym is)
    (good_horn_proof task is_task (relaxed_formula (atoms task) r)
    (relaxed_separates task r each is_task.few_atoms out))

pub relaxed_ends : (task : Strips) (lines : List Line) → IsTask task → RelaxedExcludes task
    → IsRelaxedProof task lines → Concludes lines
relaxed_ends task lines is_task out (r, each, is) =
    subst Concludes (sym is)
    (formula_concludes task true (E.Horn (relaxed_formula (atoms task) r)))

pub pairs_good : (task : Strips) (lines : List Line) → IsTask task → atoms task ≤ 1024
    → PairsExclude task → IsPairsProof task lines
    → IsGoodTable task lines
pairs_good task lines is_task few out (r, each, is) =
    subst (IsGoodTable task) (sym is)
    (good_horn_proof task is_task (pairs_formula (atoms task) r)
    (pairs_separates task r each few out))

pub pairs_end : (task : Strips) (lines : List Line) → IsTask task → atoms task ≤ 1024
    → PairsExclude task → IsPairsProof task lines
    → Concludes lines
pairs_end task lines is_task few out (r, each, is) =
    subst Concludes (sym is) (formula_concludes task true (E.Horn (pairs_formula (atoms task) r)))

pub relaxed_size : (task : Strips) (lines : List Line) → IsRelaxedProof task lines
    → length lines ≡ 16
relaxed_size task lines (r, each, is) = ap length is

pub pairs_size : (task : Strips) (lines : List Line) → IsPairsProof task lines → length lines ≡ 16
pairs_size task lines (r, each, is) = ap length is

pub relaxed_once : (task : Strips) (x y : List Line) → IsRelaxedProof task x → IsRelaxedProof task y
    → x ≡ y
relaxed_once task x y (r, tells, is) (s, also, at) =
    let same : r ≡ s = λ i p. one_truth (r p) (s p) (λ h. (also p).1 ((tells p).0 h))
    (λ h. (tells p).1 ((also p).0 h)) i in
    is ∙ (ap (λ t. horn_proof (relaxed_formula (atoms task) t)) same ∙ sym at)

pub pairs_once : (task : Strips) (x y : List Line) → IsPairsProof task x → IsPairsProof task y
    → x ≡ y
pairs_once task x y (r, tells, is) (s, also, at) =
    let same : r ≡ s =
    λ i p q. one_truth (r p q) (s p q) (λ h. (also p q).1 ((tells p q).0 h))
    (λ h. (tells p q).1 ((also p q).0 h)) i in
    is ∙ (ap (λ t. horn_proof (pairs_formula (atoms task) t)) same ∙ sym at)
