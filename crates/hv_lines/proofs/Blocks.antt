-- The block of a formula of clauses, and the whole proof by one: the lines are good, also with each
-- budget that the clauses don't pass, and a pruner may note what they show. The dead states are
-- those in which the clauses have one truth: those of the formula, or the others, and then its
-- negation has a line too.
use Rattle.std.proofs.Common.{◌≡◌, ℕ, ◌+◌, ◌<◌, ◌≤◌, ◌^◌, ◌++◌, Bool, true, false, List, []}
use Rattle.std.proofs.Common.{◌∷◌, Some, length, refl, ap, inl, inr, arith}
use Rattle.hv_task.specs.Strips.{Strips, IsState, start_state}
use Rattle.hv_sets.specs.Truth.{in_clauses}
use Rattle.hv_sets.specs.declared.literal.Literal.{Literal}
use Rattle.hv_lines.specs.DeadLines.{dead_lines, empty_note}
use Rattle.hv_lines.specs.Drafts.{DraftState, IsGoodNext, IsGoodTable, IsModest, conclusion}
use Rattle.hv_lines.specs.Drafts.{default_budget, draft_setting, most_lines, onto, prelude}
use Rattle.hv_lines.specs.Drafts.{with_budget}
use Rattle.hv_lines.specs.Good.{IsGood}
use Rattle.hv_lines.specs.Judged.{Concludes}
use Rattle.hv_lines.specs.Meaning.{SetOfStates}
use Rattle.hv_lines.specs.Numbering.{IsTable, expr_at, expr_count, known_count, statement_at}
use Rattle.hv_lines.specs.Pruning.{BeginsAsDraft, Extends, IsNoted, NoneNoted}
use Rattle.hv_lines.specs.Shapes.{IsLiteralOf}
use Rattle.hv_lines.specs.Spelling.{FitsDecimal, fields_of}
use Rattle.hv_lines.specs.Working.DeadLines.{AreDeadEnd}
use Rattle.hv_lines.specs.Working.Pruning.{AreNotesOf, IsOutcome}
use Rattle.hv_lines.specs.declared.formula_family.FormulaFamily.{FormulaFamily}
use Rattle.hv_lines.specs.declared.line.Constant.TheVariants as C
use Rattle.hv_lines.specs.declared.line.Expr.{Expr}
use Rattle.hv_lines.specs.declared.line.Expr.TheVariants as E
use Rattle.hv_lines.specs.declared.line.Line.{Line}
use Rattle.hv_lines.specs.declared.line.Line.TheVariants as L
use Rattle.hv_lines.specs.declared.line.Statement.TheVariants as T
use Rattle.hv_lines.specs.declared.line.Word.TheVariants as W
use Rattle.hv_lines.specs.declared.note.Note.{Note}
use Rattle.hv_lines.proofs.Brief.{AreLight, all_brief}
use Rattle.hv_lines.proofs.Budgets.{AreSettled, all_other}
use Rattle.hv_lines.proofs.Carried.{expr_onto}
use Rattle.hv_lines.proofs.Clausal.{IsClausal, clausal_noted, good_start, literal_in}
use Rattle.hv_lines.proofs.DeadLines.{AreNext, claim_said, good_clause_lines}
use Rattle.hv_lines.proofs.DeadLines.{settled_clause_lines}
use Rattle.hv_lines.proofs.Drafting.{concludes, good_conclusion, good_of, good_prelude, next_not}
use Rattle.hv_lines.proofs.Drafting.{table_of}
use Rattle.hv_lines.proofs.Extended.{HasPrelude, exprs_few, knowns_few, prelude_begins}
use Rattle.hv_lines.proofs.Extended.{prelude_has, prelude_onto}
use Rattle.hv_lines.proofs.Laws.{expr_at_here, expr_below}
use Rattle.hv_lines.proofs.Lengths.{weight}
use Rattle.hv_lines.proofs.Outcomes.{outcome_block, put_good}

-- the set that is said to be dead, where the formula is set m
abbrev pub dead_set : Bool → ℕ → ℕ
dead_set true m = m
dead_set false m = m + 1

-- the lines after the formula
abbrev after_formula : Bool → ℕ → ℕ → List Line
after_formula true m k = dead_lines true m m empty_note k
after_formula false m k = L.Expr (m + 1) (E.Not m) ∷ dead_lines false m (m + 1) empty_note k

-- the block: the first statement is line k
abbrev pub formula_block : Bool → Expr → ℕ → ℕ → List Line
formula_block truth formula m k = L.Expr m formula ∷ after_formula truth m k

-- the lines with a block of which a proof is made, and the whole proof, the newest line first

abbrev pub formula_start : Bool → Expr → List Line
formula_start truth formula = onto (formula_block truth formula 3 1) (onto prelude [])

abbrev pub formula_proof : Bool → Expr → List Line
formula_proof truth formula = onto (conclusion 5 (dead_set truth 3) 4) (formula_start truth formula)

-- The formula is one of which a block is good: it may be put into a draft, and the states in which
-- the clauses have this truth are a dead end.
pub record IsDeadFormula (task : Strips) (truth : Bool) (formula : Expr)
    (clauses : List (List Literal)) : Type 0 where
  pub family : FormulaFamily
  pub clausal : IsClausal task formula family clauses
  pub few : length clauses ≤ default_budget
  pub ends : AreDeadEnd task truth clauses
  pub next : (lines : List Line) (id : ℕ) → FitsDecimal id → id ≡ expr_count lines
      → IsGoodNext task lines (L.Expr id formula)

-- what a block after some lines says
module _ (task : Strips) (formula : Expr) (family : FormulaFamily) (clauses : List (List Literal))
    (clausal : IsClausal task formula family clauses) (lines : List Line) (m k : ℕ) where
  abbrev Written : Bool → List Line
  Written truth = onto (formula_block truth formula m k) lines

  pub written_says : (truth : Bool)
      → statement_at (Written truth) (k + 3) ≡ Some (T.Dead (dead_set truth m))
  written_says true = claim_said (L.Expr m formula ∷ lines) true m m empty_note k
  written_says false = claim_said (L.Expr (m + 1) (E.Not m) ∷ L.Expr m formula ∷ lines) false m
      (m + 1) empty_note k

  pub written_set : (truth : Bool) → IsTable (Written truth)
      → expr_at (Written truth) m ≡ Some formula
  written_set truth table = expr_onto (after_formula truth m k) (L.Expr m formula ∷ lines) m formula
      table (expr_at_here m formula lines)

  pub written_literal : (truth : Bool) → IsTable (Written truth)
      → IsLiteralOf (Written truth) (dead_set truth m) m truth
  written_literal true table = (refl, (formula, written_set true table, inl clausal.formula))
  written_literal false table = (
    expr_onto (dead_lines false m (m + 1) empty_note k)
        (L.Expr (m + 1) (E.Not m) ∷ L.Expr m formula ∷ lines) (m + 1) (E.Not m) table
        (expr_at_here (m + 1) (E.Not m) (L.Expr m formula ∷ lines)),
    (formula, written_set false table, inl clausal.formula),
  )

  module _ (truth : Bool) (good : IsGoodTable task (Written truth)) (covered : SetOfStates)
      (within : (state : List Bool) → IsState task state → in_clauses clauses state ≡ truth
      → covered state) where
    abbrev Noted : Note
    Noted = record { set = dead_set truth m; line = k + 3 }

    table : IsTable (Written truth)
    table = table_of task (Written truth) good

    written_noted : IsNoted task covered (Written truth) Noted
    written_noted = clausal_noted task formula family clauses clausal (Written truth) m
        (written_set truth table) covered truth (dead_set truth m) (k + 3) table
        (written_literal truth table) (written_says truth) within

    -- no note's literal holds the state, and the block is written and noted
    pub outcome_written : (IsKind : List Line → ℕ → Type 0)
        → ((old new : List Line) → Extends task old new → (set : ℕ) → IsKind old set
        → IsKind new set) → IsKind (Written truth) (dead_set truth m)
        → (IsBlock : List Line → Note → Type 0) (state : List Bool) (notes : List Note)
        → IsState task state → in_clauses clauses state ≡ truth
        → AreNotesOf task covered IsKind lines notes → NoneNoted task lines notes state
        → IsBlock (formula_block truth formula m k) Noted → (draft new : DraftState)
        (new_notes : List Note) → draft.lines ≡ lines → new.lines ≡ Written truth
        → new_notes ≡ notes ++ Noted ∷ []
        → IsOutcome task covered IsKind IsBlock state (Some (k + 3)) notes draft new_notes new
    outcome_written IsKind kept kind IsBlock state notes is_state holds fits none block =
        outcome_block task covered IsKind kept lines (formula_block truth formula m k) Noted good
        written_noted kind IsBlock state notes is_state fits none block
        (literal_in task formula family clauses clausal (Written truth) m (written_set truth table)
        table state truth (dead_set truth m) (written_literal truth table) holds)

module _ (task : Strips) (truth : Bool) (formula : Expr) (clauses : List (List Literal))
    (dead : IsDeadFormula task truth formula clauses) where
  -- after the lines of a draft
  module _ (old : List Line) (good : IsGoodTable task old) (begun : HasPrelude old) (m k : ℕ)
      (m_is : m ≡ expr_count old) (k_is : k ≡ known_count old) (m_few : m + 4 < 10 ^ 18)
      (k_few : k + 3 < 10 ^ 18) where
    -- the lines before the seven ones

    abbrev literal_lines : Bool → List Line
    literal_lines true = L.Expr m formula ∷ []
    literal_lines false = L.Expr m formula ∷ L.Expr (m + 1) (E.Not m) ∷ []

    abbrev With : Bool → List Line
    With way = onto (literal_lines way) old

    good_formula : IsGoodTable task (With true)
    good_formula = (dead.next old m (omega (arith, m_few)) m_is, good)

    good_with : (way : Bool) → IsGoodTable task (With way)
    good_with true = good_formula
    good_with false = (
      next_not task (With true) (m + 1) m (omega (arith, m_few)) (omega (arith, m_is))
          (omega arith),
      good_formula,
    )

    with_table : (way : Bool) → IsTable (With way)
    with_table way = table_of task (With way) (good_with way)

    formula_at : (way : Bool) → expr_at (With way) m ≡ Some formula
    formula_at true = expr_at_here m formula old
    formula_at false = expr_onto (L.Expr (m + 1) (E.Not m) ∷ []) (With true) m formula
        (with_table false) (expr_at_here m formula old)

    literal_of : (way : Bool) → IsLiteralOf (With way) (dead_set way m) m way
    literal_of true = (refl, (formula, formula_at true, inl dead.clausal.formula))
    literal_of false = (
      expr_at_here (m + 1) (E.Not m) (With true),
      (formula, formula_at false, inl dead.clausal.formula),
    )

    next : (way : Bool) → AreNext (With way) (dead_set way m) k
    next true = record {
      set_is = omega (arith, m_is);
      claim_is = k_is;
      few_sets = omega (arith, m_few);
      few_claims = k_few;
    }
    next false = record {
      set_is = omega (arith, m_is);
      claim_is = k_is;
      few_sets = omega (arith, m_few);
      few_claims = k_few;
    }

    two_below : 2 < m
    two_below = omega (
      arith,
      expr_below old 2 (E.Constant C.Goal) (table_of task old good) begun.goal,
      m_is,
    )

    begun_with : HasPrelude (With truth)
    begun_with = prelude_onto (literal_lines truth) old (with_table truth) begun

    -- what is so of the seven lines after those is so of the block
    as_block : (Holds : List Line → Type 0) (way : Bool)
        → Holds (onto (dead_lines way m (dead_set way m) empty_note k) (With way))
        → Holds (onto (formula_block way formula m k) old)
    as_block Holds true holds = holds
    as_block Holds false holds = holds

    -- the block is good
    pub good_block : IsGoodTable task (onto (formula_block truth formula m k) old)
    good_block =
        as_block (IsGoodTable task) truth
        (good_clause_lines task formula dead.family clauses dead.clausal m (dead_set truth m)
        two_below (With truth) (good_with truth) begun_with (formula_at truth) truth
        (literal_of truth) k (next truth) dead.ends dead.few)

    -- and so it is by each budget that the clauses don't pass
    pub settled_block : (budget : ℕ) → length clauses ≤ budget → 0 < budget
        → AreSettled (draft_setting task) budget old
        → AreSettled (draft_setting task) budget (onto (formula_block truth formula m k) old)
    settled_block budget enough some before =
        as_block (AreSettled (draft_setting task) budget) truth
        (settled_clause_lines task formula dead.family clauses dead.clausal m (dead_set truth m)
        two_below (With truth) (good_with truth) begun_with (formula_at truth) truth
        (literal_of truth) k (next truth) dead.ends dead.few budget enough some
        (settled_with truth))
      where
        settled_with : (way : Bool) → AreSettled (draft_setting task) budget (With way)
        settled_with true = before
        settled_with false = before

  -- the block may be written, after lines that are those of a draft
  pub block_good : (lines now items : List Line) (m k : ℕ) → BeginsAsDraft lines
      → IsGoodTable task lines → length now + 8 ≤ most_lines → now ≡ lines → m ≡ expr_count lines
      → k ≡ known_count lines → items ≡ formula_block truth formula m k
      → IsGoodTable task (onto items now)
  block_good lines now items m k begins good few at m_is k_is block =
      put_good task (formula_block truth formula m k) lines items now block at
      (good_block lines good (prelude_begins task lines begins good) m k m_is k_is
      (omega (arith, few, ap length at, m_is, exprs_few lines))
      (omega (arith, few, ap length at, k_is, knowns_few lines)))

  -- The whole proof.

  abbrev Block : List Line
  Block = formula_start truth formula

  pub good_start_block : IsGoodTable task (formula_start truth formula)
  good_start_block = good_block (onto prelude []) (good_prelude task) prelude_has 3 1 refl refl
      (omega arith) (omega arith)

  block_table : IsTable Block
  block_table = table_of task Block good_start_block

  begun_block : HasPrelude Block
  begun_block = prelude_onto (formula_block truth formula 3 1) (onto prelude []) block_table
      prelude_has

  next_claim_is : (way : Bool) → 5 ≡ known_count (formula_start way formula)
  next_claim_is true = refl
  next_claim_is false = refl

  dead_below : (way : Bool) → dead_set way 3 < expr_count (formula_start way formula)
  dead_below true = omega arith
  dead_below false = omega arith

  dead_fits : (way : Bool) → FitsDecimal (dead_set way 3)
  dead_fits true = omega arith
  dead_fits false = omega arith

  light_start : (way : Bool) → weight (fields_of (L.Expr 3 formula)) ≤ 7400000
      → AreLight task 7400000 (omega arith) (formula_start way formula)
  light_start true small =
      (inl tt, (inl tt, (inl tt, (inr small, (inl tt, (inl tt, (inl tt, (refl, tt))))))))
  light_start false small =
      (inl tt, (inl tt, (inl tt, (inl tt, (inr small, (inl tt, (inl tt, (inl tt, (refl, tt)))))))))

  module _ (starts : in_clauses clauses (start_state task) ≡ truth) where
    first : (budget : ℕ) → length clauses ≤ budget → 0 < budget
        → IsGood (with_budget task budget) Block (L.Known 5 (T.Sub 1 (dead_set truth 3)) W.B1 [])
    first budget enough some =
        good_start task formula dead.family clauses dead.clausal Block 3
        (written_set task formula dead.family clauses dead.clausal (onto prelude []) 3 1 truth
        block_table) block_table begun_block (dead_set truth 3) (omega arith) truth
        (written_literal task formula dead.family clauses dead.clausal (onto prelude []) 3 1 truth
        block_table) budget enough some 5 starts (omega arith) (next_claim_is truth)
        (dead_fits truth) (dead_below truth)

    -- its lines are good
    pub good_formula_proof : IsGoodTable task (formula_proof truth formula)
    good_formula_proof =
        good_conclusion task Block good_start_block 5 (dead_set truth 3) 4 (next_claim_is truth)
        (omega arith) (dead_fits truth) begun_block.start (dead_below truth)
        (written_says task formula dead.family clauses dead.clausal (onto prelude []) 3 1 truth)
        (first default_budget dead.few (omega arith))

    -- they cost no more than the clauses, and how long they are
    pub formula_modest : (budget : ℕ) → length clauses ≤ budget → 0 < budget
        → weight (fields_of (L.Expr 3 formula)) ≤ 7400000
        → IsModest task budget (formula_proof truth formula)
    formula_modest budget enough some small = record {
      cost = all_other (draft_setting task) budget (formula_proof truth formula)
          (good_of task (formula_proof truth formula) good_formula_proof) (
            inl (λ basic. basic),
            (
              inl (λ basic. basic),
              (
                inr (first budget enough some),
                settled_block (onto prelude []) (good_prelude task) prelude_has 3 1 refl refl
                    (omega arith) (omega arith) budget enough some (inl (λ basic. basic), tt),
              ),
            ),
          );
      bytes = all_brief task 7400000 (omega arith) (formula_proof truth formula) good_formula_proof
          (light_start truth small);
    }

-- and conclude
pub formula_concludes : (task : Strips) (truth : Bool) (formula : Expr)
    → Concludes (formula_proof truth formula)
formula_concludes task truth formula = concludes task (formula_start truth formula) 5
    (dead_set truth 3) 4
