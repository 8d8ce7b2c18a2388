-- What the searches found: the proofs and the blocks by it.
use Rattle.std.proofs.Common.{◌≡◌, ◌≤◌, ◌↔◌, ◌∙◌, ℕ, Bool, true, List, length, ap, subst, sym}
use Rattle.hv_task.specs.State.{has_atom}
use Rattle.hv_task.specs.Strips.{Strips, IsState, atoms, start_state}
use Rattle.hv_sets.specs.Truth.{in_clauses}
use Rattle.hv_sets.specs.declared.literal.Literal.{Literal}
use Rattle.hv_lines.specs.declared.line.Line.{Line}
use Rattle.hv_reach.specs.Pruners.{HoldsAtomsOf, HoldsPairsOf, IsPairsFormula, IsRelaxedFormula}
use Rattle.hv_reach.specs.Pruners.{PairsCover}
use Rattle.hv_reach.specs.Working.Pruners.{ShowsWhyDead}
use Rattle.hv_reach.specs.Reached.{ReachedAtom, ReachedPair, has_pair}
use Rattle.hv_reach.specs.Written.{IsPairsProof, IsRelaxedProof, PairsExcludeFrom}
use Rattle.hv_reach.specs.Written.{RelaxedExcludesFrom, horn_proof, pairs_formula, relaxed_formula}
use Rattle.hv_reach.specs.Working.Written.{Separates}
use Rattle.hv_reach.proofs.Denials.{pairs_closed, pairs_from, pairs_reason, pairs_separates}
use Rattle.hv_reach.proofs.Denials.{pairs_to, relaxed_from, relaxed_reason, relaxed_separates}
use Rattle.hv_reach.proofs.Denials.{relaxed_to}

module _ (task : Strips) (reached : List Bool) (size : length reached ≡ atoms task)
    (start : List Bool)
    (each : (p : ℕ) → (has_atom reached p ≡ true) ↔ ReachedAtom task start p)
    (clauses : List (List Literal))
    (by : clauses ≡ relaxed_formula (length reached) (has_atom reached)) where
  relaxed_is : clauses ≡ relaxed_formula (atoms task) (has_atom reached)
  relaxed_is = by ∙ ap (λ n. relaxed_formula n (has_atom reached)) size

  pub relaxed_found_formula : IsRelaxedFormula task start clauses
  relaxed_found_formula = (has_atom reached, each, relaxed_is)

  pub relaxed_found_reason : atoms task ≤ 65535 → IsState task start
      → RelaxedExcludesFrom task start
      → ShowsWhyDead task (RelaxedExcludesFrom task) start clauses
  relaxed_found_reason few is_state out =
      subst (ShowsWhyDead task (RelaxedExcludesFrom task) start) (sym relaxed_is)
      (relaxed_reason task start (has_atom reached) each few is_state out)

  -- the states of the formula are those that hold reached atoms alone
  pub relaxed_found_holds : (state : List Bool) → IsState task state
      → (in_clauses clauses state ≡ true) ↔ HoldsAtomsOf reached state
  relaxed_found_holds state is_state = (
    λ all. relaxed_to (atoms task) state is_state (has_atom reached)
        (sym (ap (λ cs. in_clauses cs state) relaxed_is) ∙ all),
    λ holds. ap (λ cs. in_clauses cs state) relaxed_is
        ∙ relaxed_from (atoms task) state is_state (has_atom reached) holds,
  )

  module _ (is_start : start ≡ start_state task) where
    each_start : (p : ℕ) → (has_atom reached p ≡ true) ↔ ReachedAtom task (start_state task) p
    each_start p = subst (λ s. (has_atom reached p ≡ true) ↔ ReachedAtom task s p) is_start (each p)

    pub relaxed_found_separates : atoms task ≤ 65535 → RelaxedExcludesFrom task start
        → Separates task clauses
    relaxed_found_separates few out =
        subst (Separates task) (sym relaxed_is)
        (relaxed_separates task (has_atom reached) each_start few
        (subst (RelaxedExcludesFrom task) is_start out))

    pub relaxed_found_proof : (lines : List Line) → lines ≡ horn_proof clauses
        → IsRelaxedProof task lines
    relaxed_found_proof lines is = (has_atom reached, each_start, is ∙ ap horn_proof relaxed_is)

module _ (task : Strips) (pairs : List (List Bool)) (start : List Bool)
    (each : (p q : ℕ) → (has_pair pairs p q ≡ true) ↔ ReachedPair task start p q)
    (clauses : List (List Literal)) (n : ℕ)
    (size : n ≡ atoms task) (by : clauses ≡ pairs_formula n (has_pair pairs)) where
  pairs_is : clauses ≡ pairs_formula (atoms task) (has_pair pairs)
  pairs_is = by ∙ ap (λ k. pairs_formula k (has_pair pairs)) size

  pub pairs_found_formula : IsPairsFormula task start clauses
  pairs_found_formula = (has_pair pairs, each, pairs_is)

  pub pairs_found_reason : atoms task ≤ 1024 → IsState task start → PairsExcludeFrom task start
      → ShowsWhyDead task (PairsCover task) start clauses
  pairs_found_reason few is_state out =
      subst (ShowsWhyDead task (PairsCover task) start) (sym pairs_is)
      (pairs_reason task start (has_pair pairs) each few is_state out)

  -- the states of the formula are those that hold reached pairs alone
  pub pairs_found_holds : (state : List Bool) → IsState task state
      → (in_clauses clauses state ≡ true) ↔ HoldsPairsOf pairs state
  pairs_found_holds state is_state = (
    λ all. pairs_to (atoms task) state is_state (has_pair pairs)
        (pairs_closed task start (has_pair pairs) each).even
        (sym (ap (λ cs. in_clauses cs state) pairs_is) ∙ all),
    λ holds. ap (λ cs. in_clauses cs state) pairs_is
        ∙ pairs_from (atoms task) state is_state (has_pair pairs) holds,
  )

  module _ (is_start : start ≡ start_state task) where
    both_start : (p q : ℕ) → (has_pair pairs p q ≡ true) ↔ ReachedPair task (start_state task) p q
    both_start p q = subst (λ s. (has_pair pairs p q ≡ true) ↔ ReachedPair task s p q) is_start
        (each p q)

    pub pairs_found_separates : atoms task ≤ 1024 → PairsExcludeFrom task start
        → Separates task clauses
    pairs_found_separates few out =
        subst (Separates task) (sym pairs_is)
        (pairs_separates task (has_pair pairs) both_start few
        (subst (PairsExcludeFrom task) is_start out))

    pub pairs_found_proof : (lines : List Line) → lines ≡ horn_proof clauses
        → IsPairsProof task lines
    pairs_found_proof lines is = (has_pair pairs, both_start, is ∙ ap horn_proof pairs_is)
