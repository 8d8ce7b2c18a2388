-- The seven lines which show that a set is dead are good where the first two of their claims are,
-- and these are for a formula of clauses that no action leads out of, and for its negation.
use Rattle.std.proofs.Common.{◌≡◌, ℕ, ◌+◌, ◌<◌, ◌≤◌, ◌^◌, Bool, true, false, List, [], ◌∷◌, Some}
use Rattle.std.proofs.Common.{length, refl, sym, subst, inl, inr, arith}
use Rattle.hv_task.specs.Strips.{Strips}
use Rattle.hv_sets.specs.declared.literal.Literal.{Literal}
use Rattle.hv_lines.specs.DeadLines.{dead_lines, empty_note, rule_by, step_by, word_by}
use Rattle.hv_lines.specs.Drafts.{IsGoodNext, IsGoodTable, default_budget, draft_setting, onto}
use Rattle.hv_lines.specs.Drafts.{with_budget}
use Rattle.hv_lines.specs.Good.{IsBasicWord, IsGood}
use Rattle.hv_lines.specs.Numbering.{IsTable, acts_count, expr_at, expr_count, known_count}
use Rattle.hv_lines.specs.Numbering.{statement_at}
use Rattle.hv_lines.specs.Rules.{Fits}
use Rattle.hv_lines.specs.Shapes.{IsLiteralOf}
use Rattle.hv_lines.specs.Spelling.{premises_of}
use Rattle.hv_lines.specs.Working.DeadLines.{AreDeadEnd}
use Rattle.hv_lines.specs.declared.formula_family.FormulaFamily.{FormulaFamily}
use Rattle.hv_lines.specs.declared.line.Acts.TheVariants as A
use Rattle.hv_lines.specs.declared.line.Constant.TheVariants as C
use Rattle.hv_lines.specs.declared.line.Expr.{Expr}
use Rattle.hv_lines.specs.declared.line.Expr.TheVariants as E
use Rattle.hv_lines.specs.declared.line.Line.{Line}
use Rattle.hv_lines.specs.declared.line.Line.TheVariants as L
use Rattle.hv_lines.specs.declared.line.Statement.TheVariants as T
use Rattle.hv_lines.specs.declared.line.Word.TheVariants as W
use Rattle.hv_lines.specs.declared.note.Note.{Note}
use Rattle.hv_lines.proofs.Budgets.{AreSettled}
use Rattle.hv_lines.proofs.Carried.{expr_onto, known_onto}
use Rattle.hv_lines.proofs.Clausal.{IsClausal, good_leads, good_misses}
use Rattle.hv_lines.proofs.Drafting.{below_three, below_two, next_after, next_and, next_before}
use Rattle.hv_lines.proofs.Drafting.{next_or, next_rule, table_of}
use Rattle.hv_lines.proofs.Extended.{HasPrelude, prelude_onto}
use Rattle.hv_lines.proofs.Laws.{acts_below, expr_at_here, expr_below, known_below, speaks_at}
use Rattle.hv_lines.proofs.Laws.{statement_at_here}
use Rattle.hv_lines.proofs.Nexts.{next_claim}

pub no_basic : (forwards : Bool) → IsBasicWord (rule_by forwards) → ⊥
no_basic true basic = basic
no_basic false basic = basic

rule_takes : (forwards : Bool) (dead : ℕ) → premises_of (T.Dead dead) (rule_by forwards) ≡ Some 3
rule_takes true dead = refl
rule_takes false dead = refl

-- The set is the newest one, the first claim is the next one, and a draft has space for the lines.
pub record AreNext (old : List Line) (dead k : ℕ) : Type 0 where
  pub set_is : dead + 1 ≡ expr_count old
  pub claim_is : k ≡ known_count old
  pub few_sets : dead + 3 < 10 ^ 18
  pub few_claims : k + 3 < 10 ^ 18

-- what the last line says
pub claim_said : (old : List Line) (forwards : Bool) (set dead : ℕ) (union : Note) (k : ℕ)
    → statement_at (onto (dead_lines forwards set dead union k) old) (k + 3)
    ≡ Some (T.Dead dead)
claim_said old forwards set dead union k =
    statement_at_here (k + 3) (T.Dead dead) (rule_by forwards) (k ∷ union.line ∷ (k + 2) ∷ []) (
    L.Known (k + 2) (T.Dead (dead + 3)) W.Sd ((k + 1) ∷ 0 ∷ [])
    ∷ L.Known (k + 1) (T.Sub (dead + 3) 0) W.B1 []
    ∷ L.Known k (T.Sub (dead + 1) (dead + 2)) (word_by forwards) []
    ∷ L.Expr (dead + 3) (E.And dead 2)
    ∷ L.Expr (dead + 2) (E.Or set union.set)
    ∷ L.Expr (dead + 1) (step_by forwards set)
    ∷ old
    )

-- the formula of a literal has a line, and further lines change nothing of both

formula_below : (lines : List Line) → IsTable lines → (leaf set : ℕ) (sign : Bool)
    → IsLiteralOf lines leaf set sign → set < expr_count lines
formula_below lines table leaf set true literal = expr_below lines set literal.1.0 table literal.1.1
formula_below lines table leaf set false literal = expr_below lines set literal.1.0 table
    literal.1.1

pub literal_onto : (more lines : List Line) → IsTable (onto more lines) → (leaf set : ℕ)
    (sign : Bool) → IsLiteralOf lines leaf set sign → IsLiteralOf (onto more lines) leaf set sign
literal_onto more lines table leaf set true (same, (x, at, plain)) =
    (same, (x, expr_onto more lines set x table at, plain))
literal_onto more lines table leaf set false (negates, (x, at, plain)) = (
  expr_onto more lines leaf (E.Not set) table negates,
  (x, expr_onto more lines set x table at, plain),
)

module _ (task : Strips) (old : List Line) (good : IsGoodTable task old) (begun : HasPrelude old)
    (forwards : Bool) (set dead : ℕ) (literal : IsLiteralOf old dead set forwards) (union : Note)
    (says : statement_at old union.line ≡ Some (T.Dead union.set)) (k : ℕ)
    (next : AreNext old dead k) where
  abbrev step : ℕ
  step = dead + 1

  abbrev both : ℕ
  both = dead + 2

  abbrev meet : ℕ
  meet = dead + 3

  abbrev L1 : Line
  L1 = L.Expr step (step_by forwards set)

  abbrev L2 : Line
  L2 = L.Expr both (E.Or set union.set)

  abbrev L3 : Line
  L3 = L.Expr meet (E.And dead 2)

  abbrev L4 : Line
  L4 = L.Known k (T.Sub step both) (word_by forwards) []

  abbrev L5 : Line
  L5 = L.Known (k + 1) (T.Sub meet 0) W.B1 []

  abbrev L6 : Line
  L6 = L.Known (k + 2) (T.Dead meet) W.Sd ((k + 1) ∷ 0 ∷ [])

  abbrev B1 : List Line
  B1 = L1 ∷ old

  abbrev B2 : List Line
  B2 = L2 ∷ B1

  abbrev B3 : List Line
  B3 = L3 ∷ B2

  abbrev B4 : List Line
  B4 = L4 ∷ B3

  abbrev B5 : List Line
  B5 = L5 ∷ B4

  abbrev B6 : List Line
  B6 = L6 ∷ B5

  table : IsTable old
  table = table_of task old good

  two_below : 2 < expr_count old
  two_below = expr_below old 2 (E.Constant C.Goal) table begun.goal

  acts_some : 0 < acts_count old
  acts_some = acts_below old 0 A.All table begun.all

  set_below : set < expr_count old
  set_below = formula_below old table dead set forwards literal

  union_below : union.set < expr_count old
  union_below = speaks_at old union.line (T.Dead union.set) table says

  by_below : union.line < known_count old
  by_below = known_below old union.line (T.Dead union.set) table says

  next_step : (way : Bool) → IsGoodNext task old (L.Expr step (step_by way set))
  next_step true = next_after task old acts_some step set
      (omega (arith, next.few_sets)) next.set_is
      (omega (arith, next.set_is, set_below))
  next_step false = next_before task old acts_some step set
      (omega (arith, next.few_sets)) next.set_is
      (omega (arith, next.set_is, set_below))

  -- the three sets are good

  good1 : IsGoodTable task B1
  good1 = (next_step forwards, good)

  good2 : IsGoodTable task B2
  good2 = (
    next_or task B1 both set union.set (omega (arith, next.few_sets))
        (omega (arith, next.set_is)) (omega (arith, next.set_is, set_below))
        (omega (arith, next.set_is, union_below)),
    good1,
  )

  pub good_sets : IsGoodTable task B3
  good_sets = (
    next_and task B2 meet dead 2 (omega (arith, next.few_sets))
        (omega (arith, next.set_is)) (omega arith)
        (omega (arith, next.set_is, two_below)),
    good2,
  )

  pub sets_table : IsTable B3
  sets_table = table_of task B3 good_sets

  -- what is at the identifiers then

  pub sets_begun : HasPrelude B3
  sets_begun = prelude_onto (L1 ∷ L2 ∷ L3 ∷ []) old sets_table begun

  pub sets_literal : IsLiteralOf B3 dead set forwards
  sets_literal = literal_onto (L1 ∷ L2 ∷ L3 ∷ []) old sets_table dead set forwards literal

  pub at_step : expr_at B3 step ≡ Some (step_by forwards set)
  at_step = expr_onto (L2 ∷ L3 ∷ []) B1 step (step_by forwards set) sets_table
      (expr_at_here step (step_by forwards set) old)

  pub at_both : expr_at B3 both ≡ Some (E.Or set union.set)
  at_both = expr_onto (L3 ∷ []) B2 both (E.Or set union.set) sets_table
      (expr_at_here both (E.Or set union.set) B1)

  pub at_meet : expr_at B3 meet ≡ Some (E.And dead 2)
  at_meet = expr_at_here meet (E.And dead 2) B2

  module _ (leads : IsGood (draft_setting task) B3 L4) (misses : IsGood (draft_setting task) B4 L5)
    where
      good4 : IsGoodTable task B4
      good4 = (
        next_claim task B3 k (T.Sub step both) (word_by forwards) [] leads,
        good_sets,
      )

      good5 : IsGoodTable task B5
      good5 = (next_claim task B4 (k + 1) (T.Sub meet 0) W.B1 [] misses, good4)

      says5 : statement_at B5 0 ≡ Some (T.Dead 0)
      says5 = known_onto (L4 ∷ L5 ∷ []) B3 0 (T.Dead 0) (table_of task B5 good5)
          sets_begun.empty_dead

      good6 : IsGoodTable task B6
      good6 = (
        next_rule task B5 (k + 2) (T.Dead meet) W.Sd ((k + 1) ∷ 0 ∷ []) (λ basic. basic)
            (omega (arith, next.few_claims)) (omega (arith, next.claim_is))
            (omega (arith, next.few_sets)) (omega (arith, next.set_is)) refl
            (below_two (k + 2) (k + 1) 0 (omega arith) (omega arith))
            (0, statement_at_here (k + 1) (T.Sub meet 0) W.B1 [] B4, says5),
        good5,
      )

      table6 : IsTable B6
      table6 = table_of task B6 good6

      leads_said : statement_at B6 k ≡ Some (T.Sub step both)
      leads_said =
          known_onto (L5 ∷ L6 ∷ []) B4 k (T.Sub step both) table6
          (statement_at_here k (T.Sub step both) (word_by forwards) [] B3)

      union_said : statement_at B6 union.line ≡ Some (T.Dead union.set)
      union_said = known_onto (L1 ∷ L2 ∷ L3 ∷ L4 ∷ L5 ∷ L6 ∷ []) old union.line (T.Dead union.set)
          table6 says

      goals_said : statement_at B6 (k + 2) ≡ Some (T.Dead meet)
      goals_said = statement_at_here (k + 2) (T.Dead meet) W.Sd ((k + 1) ∷ 0 ∷ []) B5

      fits : (way : Bool) → IsLiteralOf B3 dead set way → expr_at B3 step ≡ Some (step_by way set)
          → Fits B6 (T.Dead dead) (rule_by way) (k ∷ union.line ∷ (k + 2) ∷ [])
      fits true is at = (
        step,
        0,
        both,
        union.set,
        meet,
        2,
        leads_said,
        subst (λ s. expr_at B6 step ≡ Some (E.After s 0)) (sym is.0) at,
        sets_begun.all,
        subst (λ s. expr_at B6 both ≡ Some (E.Or s union.set)) (sym is.0) at_both,
        union_said,
        goals_said,
        at_meet,
        sets_begun.goal,
      )
      fits false is at = (
        set,
        step,
        0,
        both,
        union.set,
        meet,
        2,
        is.0,
        leads_said,
        at,
        sets_begun.all,
        at_both,
        union_said,
        goals_said,
        at_meet,
        sets_begun.goal,
      )

      -- the seven lines are good
      pub good_dead : IsGoodTable task
          (onto (dead_lines forwards set dead union k) old)
      good_dead = (
        next_rule task B6 (k + 3) (T.Dead dead) (rule_by forwards)
            (k ∷ union.line ∷ (k + 2) ∷ []) (no_basic forwards)
            (omega (arith, next.few_claims)) (omega (arith, next.claim_is))
            (omega (arith, next.few_sets)) (omega (arith, next.set_is))
            (rule_takes forwards dead)
            (below_three (k + 3) k union.line (k + 2) (omega arith)
            (omega (arith, next.claim_is, by_below)) (omega arith))
            (fits forwards sets_literal at_step),
        good6,
      )

-- For a formula of clauses or its negation the two claims are good where no action leads out of its
-- states, and none is a goal state.
module _ (task : Strips) (expr : Expr) (family : FormulaFamily) (clauses : List (List Literal))
    (clausal : IsClausal task expr family clauses) (set dead : ℕ) (two_before : 2 < set)
    (old : List Line) (good : IsGoodTable task old) (begun : HasPrelude old)
    (at : expr_at old set ≡ Some expr) (forwards : Bool)
    (literal : IsLiteralOf old dead set forwards) (k : ℕ) (next : AreNext old dead k)
    (ends : AreDeadEnd task forwards clauses) where
  abbrev Sets : List Line
  Sets = L.Expr (dead + 3) (E.And dead 2) ∷ L.Expr (dead + 2) (E.Or set 0)
      ∷ L.Expr (dead + 1) (step_by forwards set) ∷ old

  abbrev Led : List Line
  Led = L.Known k (T.Sub (dead + 1) (dead + 2)) (word_by forwards) [] ∷ Sets

  sets : IsGoodTable task Sets
  sets = good_sets task old good begun forwards set dead literal empty_note begun.empty_dead k next

  sets_is : IsTable Sets
  sets_is = table_of task Sets sets

  sets_have : HasPrelude Sets
  sets_have = sets_begun task old good begun forwards set dead literal empty_note begun.empty_dead
      k next

  set_at : expr_at Sets set ≡ Some expr
  set_at = expr_onto (L.Expr (dead + 1) (step_by forwards set) ∷ L.Expr (dead + 2) (E.Or set 0)
      ∷ L.Expr (dead + 3) (E.And dead 2) ∷ []) old set expr sets_is at

  literal_at : IsLiteralOf Sets dead set forwards
  literal_at = sets_literal task old good begun forwards set dead literal empty_note
      begun.empty_dead k next

  module _ (budget : ℕ) (enough : length clauses ≤ budget) (some : 0 < budget) where
    led : IsGood (with_budget task budget) Sets
        (L.Known k (T.Sub (dead + 1) (dead + 2)) (word_by forwards) [])
    led =
        good_leads task expr family clauses clausal Sets set set_at sets_is sets_have dead
        two_before forwards literal_at budget enough some k (dead + 1) (dead + 2)
        (at_step task old good begun forwards set dead literal empty_note begun.empty_dead k next)
        (at_both task old good begun forwards set dead literal empty_note begun.empty_dead k next)
        ends (omega (arith, next.few_claims)) next.claim_is
        (omega (arith, next.few_sets)) (omega (arith, next.few_sets))

    missed : IsTable Led → IsGood (with_budget task budget) Led
        (L.Known (k + 1) (T.Sub (dead + 3) 0) W.B1 [])
    missed table =
        let claim = L.Known k (T.Sub (dead + 1) (dead + 2)) (word_by forwards) [] ∷ [] in
        good_misses task expr family clauses clausal Led set set_at table
        (prelude_onto claim Sets table sets_have) dead two_before forwards
        (literal_onto claim Sets table dead set forwards literal_at) budget enough some (k + 1)
        (dead + 3)
        (at_meet task old good begun forwards set dead literal empty_note begun.empty_dead k next)
        ends (omega (arith, next.few_claims)) (omega (arith, next.claim_is))
        (omega (arith, next.few_sets))

  module _ (few : length clauses ≤ default_budget) where
    led_is : IsTable Led
    led_is = table_of task Led (
      next_claim task Sets k (T.Sub (dead + 1) (dead + 2)) (word_by forwards) []
          (led default_budget few (omega arith)),
      sets,
    )

    -- they are good
    pub good_clause_lines : IsGoodTable task
        (onto (dead_lines forwards set dead empty_note k) old)
    good_clause_lines =
        good_dead task old good begun forwards set dead literal empty_note begun.empty_dead k next
        (led default_budget few (omega arith)) (missed default_budget few (omega arith) led_is)

    -- and so they are by each budget that the clauses don't pass, if those before them are
    pub settled_clause_lines : (budget : ℕ) → length clauses ≤ budget → 0 < budget
        → AreSettled (draft_setting task) budget old
        → AreSettled (draft_setting task) budget
        (onto (dead_lines forwards set dead empty_note k) old)
    settled_clause_lines budget enough some before = (
      inl (no_basic forwards),
      (
        inl (λ basic. basic),
        (inr (missed budget enough some led_is), (inr (led budget enough some), before)),
      ),
    )
