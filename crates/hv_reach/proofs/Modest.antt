-- What the proofs cost, and how long their lines are.
use Rattle.std.proofs.Common.{◌≡◌, ℕ, ◌+◌, ◌*◌, ◌<◌, ◌≤◌, true, false, cond, List, [], ◌∷◌, length}
use Rattle.std.proofs.Common.{decimal, subst, sym, arith}
use Rattle.std.proofs.lemmas.Fmt.{length-decimal-le_wide}
use Rattle.std.proofs.lemmas.List.Elements.{All-head, All-tail}
use Rattle.std.specs.List.{All, flat_map}
use Rattle.hv_task.specs.Strips.{Strips, IsTask, atoms}
use Rattle.hv_sets.specs.declared.literal.Literal.{Literal}
use Rattle.hv_lines.specs.Drafts.{IsModest}
use Rattle.hv_lines.specs.Spelling.{clause_fields, literal_field}
use Rattle.hv_lines.specs.declared.line.Expr.TheVariants as E
use Rattle.hv_lines.specs.declared.line.Line.{Line}
use Rattle.hv_lines.proofs.Blocks.{formula_modest}
use Rattle.hv_lines.proofs.Lengths.{decimal_short, weight, weight-append}
use Rattle.hv_reach.specs.Written.{IsDenial, IsPairsProof, IsRelaxedProof, PairsExclude}
use Rattle.hv_reach.specs.Written.{RelaxedExcludes, horn_proof, pairs_formula, relaxed_formula}
use Rattle.hv_reach.specs.Working.Written.{Separates}
use Rattle.hv_reach.proofs.Block.{horn_dead}
use Rattle.hv_reach.proofs.Denials.{pairs_denials, pairs_few, pairs_separates, relaxed_denials}
use Rattle.hv_reach.proofs.Denials.{relaxed_few, relaxed_separates}

-- a literal that denies an atom, where its number has at most so many digits
denied_short : (digits : ℕ) (literal : Literal) → literal.positive ≡ false
    → length (decimal (literal.atom + 1)) ≤ digits
    → length (literal_field literal) ≤ digits + 1
denied_short digits literal denies few =
    subst (λ b. length (cond b (decimal (literal.atom + 1)) (45 ∷ decimal (literal.atom + 1)))
    ≤ digits + 1) (sym denies) (omega (arith, few))

module _ (n digits : ℕ) (few_digits : (p : ℕ) → p < n → length (decimal (p + 1)) ≤ digits) where
  denial_short : (clause : List Literal) → IsDenial n clause
      → weight (clause_fields clause) ≤ 2 * digits + 6
  denial_short [] denial = omega arith
  denial_short (l ∷ []) denial =
      omega (
        arith,
        denied_short digits l (All-head (λ x. x.positive ≡ false) l [] denial.denies)
            (few_digits l.atom (All-head (λ x. x.atom < n) l [] denial.below)),
      )
  denial_short (l ∷ k ∷ []) denial =
      omega (
        arith,
        denied_short digits l (All-head (λ x. x.positive ≡ false) l (k ∷ []) denial.denies)
            (few_digits l.atom (All-head (λ x. x.atom < n) l (k ∷ []) denial.below)),
        denied_short digits k (All-head (λ x. x.positive ≡ false) k []
            (All-tail (λ x. x.positive ≡ false) l (k ∷ []) denial.denies))
            (few_digits k.atom (All-head (λ x. x.atom < n) k []
            (All-tail (λ x. x.atom < n) l (k ∷ []) denial.below))),
      )
  denial_short (l ∷ k ∷ m ∷ rest) denial = absurd (omega (arith, denial.few))

  denials_short : (clauses : List (List Literal)) → All (IsDenial n) clauses
      → weight (flat_map clause_fields clauses) ≤ (2 * digits + 6) * length clauses
  denials_short [] all = omega arith
  denials_short (clause ∷ clauses) all =
      omega (
        arith,
        weight-append (clause_fields clause) (flat_map clause_fields clauses),
        denial_short clause (All-head (IsDenial n) clause clauses all),
        denials_short clauses (All-tail (IsDenial n) clause clauses all),
      )

five_digits : (p : ℕ) → p < 65535 → length (decimal (p + 1)) ≤ 5
five_digits p small = length-decimal-le_wide 5 (p + 1) (omega arith) (omega (arith, small))
    (omega arith)

four_digits : (p : ℕ) → p < 1024 → length (decimal (p + 1)) ≤ 4
four_digits p small = length-decimal-le_wide 4 (p + 1) (omega arith) (omega (arith, small))
    (omega arith)

-- what the proof by a formula costs, and how long its lines are
horn_modest : (task : Strips) → IsTask task → (clauses : List (List Literal))
    → Separates task clauses → (most : ℕ) → length clauses ≤ most → 0 < most
    → weight (flat_map clause_fields clauses) ≤ 7399900 → IsModest task most (horn_proof clauses)
horn_modest task is_task clauses separates most enough some small =
    formula_modest task true (E.Horn clauses) clauses
    (horn_dead task is_task clauses separates.dead) separates.starts most enough some
    (omega (
      arith,
      decimal_short 3 (omega arith),
      decimal_short (length clauses) (omega (arith, separates.dead.few)),
      small,
    ))

pub relaxed_modest : (task : Strips) (lines : List Line) → IsTask task → RelaxedExcludes task
    → IsRelaxedProof task lines
    → IsModest task 65535 lines
relaxed_modest task lines is_task out (r, each, is) =
    let few : length (relaxed_formula (atoms task) r) ≤ atoms task = relaxed_few (atoms task) r in
    let separates = relaxed_separates task r each is_task.few_atoms out in
    subst (IsModest task 65535) (sym is)
    (horn_modest task is_task (relaxed_formula (atoms task) r) separates 65535
    (omega (arith, few, is_task.few_atoms)) (omega arith)
    (omega (
      arith,
      few,
      is_task.few_atoms,
      denials_short (atoms task) 5 (λ p below. five_digits p
          (omega (arith, below, is_task.few_atoms))) (relaxed_formula (atoms task) r)
          (relaxed_denials (atoms task) r),
    )))

pub pairs_modest : (task : Strips) (lines : List Line) → IsTask task → atoms task ≤ 1024
    → PairsExclude task → IsPairsProof task lines
    → IsModest task 524800 lines
pairs_modest task lines is_task small out (r, each, is) =
    let separates = pairs_separates task r each small out in
    subst (IsModest task 524800) (sym is)
    (horn_modest task is_task (pairs_formula (atoms task) r) separates 524800
    (pairs_few (atoms task) r small) (omega arith)
    (omega (
      arith,
      pairs_few (atoms task) r small,
      denials_short (atoms task) 4 (λ p below. four_digits p (omega (arith, below, small)))
          (pairs_formula (atoms task) r)
          (pairs_denials (atoms task) r),
    )))
