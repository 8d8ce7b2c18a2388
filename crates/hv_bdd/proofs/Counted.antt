-- Counts of paths up to a cap.
use Rattle.std.proofs.Common.{◌≡◌, ℕ, ◌<◌, ◌+◌, ◌∙◌, [], ◌∷◌, cond, length, min, ap, arith}
use Rattle.std.proofs.lemmas.Bool.{eq-eqb, ne_eqb}
use Rattle.hv_bdd.specs.Nodes.{NodeList}
use Rattle.hv_bdd.specs.Paths.{paths}
use Rattle.hv_bdd.specs.Working.Laws.{paths_end}

pub count_end : (list : NodeList) (end node cap : ℕ) → node < 2 → node ≡ end
    → 1 ≡ min (length (paths list end node)) (cap + 1)
count_end list end node cap last same =
    let one : length (paths list end node) ≡ 1 =
    ap length (paths_end list end node last ∙ ap (λ b. cond b ([] ∷ []) []) (eq-eqb node end same))
    in omega arith

pub count_other : (list : NodeList) (end node cap : ℕ) → node < 2 → (node ≡ end → ⊥)
    → 0 ≡ min (length (paths list end node)) (cap + 1)
count_other list end node cap last other =
    let none : length (paths list end node) ≡ 0 =
    ap length (paths_end list end node last ∙ ap (λ b. cond b ([] ∷ []) []) (ne_eqb node end other))
    in omega arith
