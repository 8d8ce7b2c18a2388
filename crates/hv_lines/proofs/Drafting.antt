-- Good lines by their letter and word, and the lines with which drafts begin and end.
use Rattle.std.proofs.Common.{◌≡◌, ℕ, ◌+◌, ◌<◌, ◌^◌, List, [], ◌∷◌, Some, length, refl, subst}
use Rattle.std.proofs.Common.{arith}
use Rattle.std.proofs.lemmas.List.Elements.{All-cons, All-nil}
use Rattle.std.specs.List.{All}
use Rattle.hv_task.specs.State.{AreBelow}
use Rattle.hv_task.specs.Strips.{Strips}
use Rattle.hv_lines.specs.Drafts.{IsGoodNext, IsGoodTable, conclusion, draft_setting, onto, prelude}
use Rattle.hv_lines.specs.Good.{AreGood, ExprIsWithin, IsBasicWord, IsGood, IsOfItsFamily}
use Rattle.hv_lines.specs.Working.Good.{IsFormed}
use Rattle.hv_lines.specs.Judged.{Concludes}
use Rattle.hv_lines.specs.Numbering.{ExprRefersBelow, IsTable, SpeaksBelow, acts_count, expr_at}
use Rattle.hv_lines.specs.Numbering.{expr_count, known_count, statement_at}
use Rattle.hv_lines.specs.Rules.{Fits}
use Rattle.hv_lines.specs.Setting.{Setting}
use Rattle.hv_lines.specs.Spelling.{ExprFits, FitsDecimal, StatementFits, premises_of}
use Rattle.hv_lines.specs.declared.line.Acts.TheVariants as A
use Rattle.hv_lines.specs.declared.line.Constant.{Constant}
use Rattle.hv_lines.specs.declared.line.Constant.TheVariants as C
use Rattle.hv_lines.specs.declared.line.Expr.{Expr}
use Rattle.hv_lines.specs.declared.line.Expr.TheVariants as E
use Rattle.hv_lines.specs.declared.line.Line.{Line}
use Rattle.hv_lines.specs.declared.line.Line.TheVariants as L
use Rattle.hv_lines.specs.declared.line.Statement.{Statement}
use Rattle.hv_lines.specs.declared.line.Statement.TheVariants as T
use Rattle.hv_lines.specs.declared.line.Word.{Word}
use Rattle.hv_lines.specs.declared.line.Word.TheVariants as W
use Rattle.hv_lines.proofs.Laws.{expr_below, known_below, statement_at_here}
use Rattle.hv_lines.proofs.Carried.{known_onto}
use Rattle.hv_lines.proofs.Lengths.{decimal_short, short_by}
use Rattle.hv_lines.proofs.Nexts.{IsMade, next_claim, next_made}
use Rattle.hv_lines.proofs.Reasons.{good_line, good_next}

-- the lines of a good draft are a table
pub table_of : (task : Strips) (lines : List Line) → IsGoodTable task lines → IsTable lines
table_of task [] good = tt
table_of task (line ∷ older) good = (
  good_next (draft_setting task) older line good.0.good,
  table_of
      task older good.1,
)

-- they are good by the setting of drafts
pub good_of : (task : Strips) (lines : List Line) → IsGoodTable task lines
    → AreGood (draft_setting task) lines
good_of task [] good = tt
good_of task (line ∷ older) good = (good.0.good, good_of task older good.1)

-- the lines before the further ones of a good draft are those of a good draft
pub good_before : (task : Strips) (more lines : List Line) → IsGoodTable task (onto more lines)
    → IsGoodTable task lines
good_before task [] lines good = good
good_before task (line ∷ more) lines good = (good_before task more (line ∷ lines) good).1

-- lists of premises

pub below_one : (n a : ℕ) → a < n → AreBelow n (a ∷ [])
below_one n a at = All-cons (λ x. x < n) a [] at (All-nil (λ x. x < n))

pub below_two : (n a b : ℕ) → a < n → b < n → AreBelow n (a ∷ b ∷ [])
below_two n a b at also = All-cons (λ x. x < n) a (b ∷ []) at (below_one n b also)

pub below_three : (n a b c : ℕ) → a < n → b < n → c < n → AreBelow n (a ∷ b ∷ c ∷ [])
below_three n a b c at also more = All-cons
    (λ x. x < n) a (b ∷ c ∷ []) at (below_two n b c also more)

module _ (setting : Setting) (lines : List Line) where
  pub formed_expr : (id : ℕ) (expr : Expr) → FitsDecimal id → ExprFits expr → id ≡ expr_count lines
      → ExprRefersBelow (acts_count lines) (expr_count lines) expr
      → ExprIsWithin setting.task setting.nodes expr
      → IsOfItsFamily expr → IsFormed setting lines (L.Expr id expr)
  formed_expr id expr at fits is refers within family =
      record { spelled = (at, fits); numbered = is; known = (refers, within); family = family }

  pub formed_known : (id : ℕ) (statement : Statement) (word : Word) (premises : List ℕ)
      → FitsDecimal id → StatementFits statement
      → All FitsDecimal premises → premises_of statement word ≡ Some (length premises)
      → id ≡ known_count lines
      → SpeaksBelow (acts_count lines) (expr_count lines) statement
      → AreBelow (known_count lines) premises
      → IsFormed setting lines (L.Known id statement word premises)
  formed_known id statement word premises at says fit many is speaks below = record {
    spelled = (at, says, fit, many);
    numbered = is;
    known = ((speaks, below), tt);
    family = tt;
  }

  pub good_expr : (id : ℕ) (expr : Expr) → IsFormed setting lines (L.Expr id expr)
      → IsGood setting lines (L.Expr id expr)
  good_expr id expr formed = good_line setting lines (L.Expr id expr) formed tt tt tt tt tt

  -- a line that is justified by a derivation rule
  pub good_rule : (id : ℕ) (statement : Statement) (word : Word) (premises : List ℕ)
      → (IsBasicWord word → ⊥)
      → IsFormed setting lines (L.Known id statement word premises)
      → Fits lines statement word premises
      → IsGood setting lines (L.Known id statement word premises)
  good_rule id statement word premises out formed fits =
      good_line setting lines (L.Known id statement word premises) formed (λ on. fits)
      (λ on. absurd (out on)) (λ on. absurd (out on))
      (λ on. absurd (out on)) (λ on. absurd (out on))

-- a statement about sets, without premises
pub formed_sub : (setting : Setting) (lines : List Line) (id left right : ℕ) (word : Word)
    → FitsDecimal id → id ≡ known_count lines
    → FitsDecimal left → FitsDecimal right → left < expr_count lines → right < expr_count lines
    → premises_of (T.Sub left right) word ≡ Some 0
    → IsFormed setting lines (L.Known id (T.Sub left right) word [])
formed_sub setting lines id left right word at is left_fits right_fits left_below right_below none =
    formed_known setting lines id (T.Sub left right) word [] at (left_fits, right_fits)
    (All-nil FitsDecimal) none is (left_below, right_below)
    (All-nil (λ x. x < known_count lines))

-- what may come next in a draft
module _ (task : Strips) (lines : List Line) where
  next_formed : (id : ℕ) (expr : Expr) → IsMade expr
      → IsFormed (draft_setting task) lines (L.Expr id expr)
      → IsGoodNext task lines (L.Expr id expr)
  next_formed id expr made formed = next_made task lines id expr made
      (good_expr (draft_setting task) lines id expr formed)

  pub next_constant : (id : ℕ) (constant : Constant) → FitsDecimal id → id ≡ expr_count lines
      → IsGoodNext task lines (L.Expr id (E.Constant constant))
  next_constant id constant at is =
      next_formed id (E.Constant constant) tt
      (formed_expr (draft_setting task) lines id (E.Constant constant) at tt is tt tt tt)

  pub next_not : (id set : ℕ) → FitsDecimal id → id ≡ expr_count lines → set < id
      → IsGoodNext task lines (L.Expr id (E.Not set))
  next_not id set at is below =
      next_formed id (E.Not set) tt
      (formed_expr (draft_setting task) lines id (E.Not set) at (omega (arith, at, below)) is
      (omega (arith, is, below)) tt tt)

  pub next_and : (id left right : ℕ) → FitsDecimal id → id ≡ expr_count lines → left < id
      → right < id
      → IsGoodNext task lines (L.Expr id (E.And left right))
  next_and id left right at is below also =
      next_formed id (E.And left right) tt
      (formed_expr (draft_setting task) lines id (E.And left right) at
      (omega (arith, at, below), omega (arith, at, also)) is
      (omega (arith, is, below), omega (arith, is, also)) tt tt)

  pub next_or : (id left right : ℕ) → FitsDecimal id → id ≡ expr_count lines → left < id
      → right < id
      → IsGoodNext task lines (L.Expr id (E.Or left right))
  next_or id left right at is below also =
      next_formed id (E.Or left right) tt
      (formed_expr (draft_setting task) lines id (E.Or left right) at
      (omega (arith, at, below), omega (arith, at, also)) is
      (omega (arith, is, below), omega (arith, is, also)) tt tt)

  -- a step by the first set of actions
  module _ (some : 0 < acts_count lines) where
    pub next_after : (id set : ℕ) → FitsDecimal id → id ≡ expr_count lines → set < id
        → IsGoodNext task lines (L.Expr id (E.After set 0))
    next_after id set at is below =
        next_formed id (E.After set 0) tt
        (formed_expr (draft_setting task) lines id (E.After set 0) at
        (omega (arith, at, below), omega arith) is
        (omega (arith, is, below), some) tt tt)

    pub next_before : (id set : ℕ) → FitsDecimal id → id ≡ expr_count lines → set < id
        → IsGoodNext task lines (L.Expr id (E.Before set 0))
    next_before id set at is below =
        next_formed id (E.Before set 0) tt
        (formed_expr (draft_setting task) lines id (E.Before set 0) at
        (omega (arith, at, below), omega arith) is
        (omega (arith, is, below), some) tt tt)

  -- a statement by a derivation rule
  pub next_rule : (id : ℕ) (statement : Statement) (word : Word) (premises : List ℕ)
      → (IsBasicWord word → ⊥) → FitsDecimal id
      → id ≡ known_count lines → StatementFits statement
      → SpeaksBelow (acts_count lines) (expr_count lines) statement
      → premises_of statement word ≡ Some (length premises) → AreBelow id premises
      → Fits lines statement word premises
      → IsGoodNext task lines (L.Known id statement word premises)
  next_rule id statement word premises out at is says speaks many below fits =
      next_claim task lines id statement word premises
      (good_rule (draft_setting task) lines id statement word premises out
      (formed_known (draft_setting task) lines id statement word premises at says
      (λ i d less. let small = below i d less in omega (arith, at, small)) many is speaks
      (subst (λ n. AreBelow n premises) is below))
      fits)

module _ (task : Strips) where
  abbrev all_actions : List Line
  all_actions = L.Acts 0 A.All ∷ []

  abbrev with_empty : List Line
  with_empty = L.Expr 0 (E.Constant C.Empty) ∷ all_actions

  abbrev with_start : List Line
  with_start = L.Expr 1 (E.Constant C.Start) ∷ with_empty

  abbrev with_goal : List Line
  with_goal = L.Expr 2 (E.Constant C.Goal) ∷ with_start

  -- the lines with which every draft begins are good
  pub good_prelude : IsGoodTable task (onto prelude [])
  good_prelude = (
    next_rule task with_goal 0 (T.Dead 0) W.Ed []
        (λ basic. basic) (omega arith) refl (omega arith) (omega arith) refl (All-nil (λ x. x < 0))
        refl,
    (
      next_constant task with_start 2 C.Goal (omega arith) refl,
      (
        next_constant task with_empty 1 C.Start (omega arith) refl,
        (
          next_constant task all_actions 0 C.Empty (omega arith) refl,
          (
            record {
              good = good_line (draft_setting task) [] (L.Acts 0 A.All)
                  (record {
                    spelled = (omega arith, tt);
                    numbered = refl;
                    known = (tt, tt);
                    family =
                        tt;
                  }) tt tt tt tt tt;
              short = short_by (L.Acts 0 A.All) (omega (arith, decimal_short 0 (omega arith)));
            },
            tt,
          ),
        ),
      ),
    ),
  )

  -- The lines with which a proof ends are good: what is dead holds the initial state, and the first
  -- line, which says so, is good.
  module _ (old : List Line) (good : IsGoodTable task old) (k dead by : ℕ)
      (is : k ≡ known_count old) (few : k + 2 < 10 ^ 18)
      (dead_fits : FitsDecimal dead) (start : expr_at old 1 ≡ Some (E.Constant C.Start))
      (there : dead < expr_count old)
      (says : statement_at old by ≡ Some (T.Dead dead))
      (first : IsGood (draft_setting task) old (L.Known k (T.Sub 1 dead) W.B1 [])) where
    abbrev with_inclusion : List Line
    with_inclusion = L.Known k (T.Sub 1 dead) W.B1 [] ∷ old

    abbrev with_dead_start : List Line
    with_dead_start = L.Known (k + 1) (T.Dead 1) W.Sd (k ∷ by ∷ []) ∷ with_inclusion

    table : IsTable old
    table = table_of task old good

    by_below : by < k
    by_below = omega (arith, known_below old by (T.Dead dead) table says, is)

    start_below : 1 < expr_count old
    start_below = expr_below old 1 (E.Constant C.Start) table start

    good1 : IsGoodTable task with_inclusion
    good1 = (next_claim task old k (T.Sub 1 dead) W.B1 [] first, good)

    says1 : statement_at with_inclusion by ≡ Some (T.Dead dead)
    says1 = known_onto (L.Known k (T.Sub 1 dead) W.B1 [] ∷ []) old by (T.Dead dead)
        (table_of task with_inclusion good1) says

    good2 : IsGoodTable task with_dead_start
    good2 = (
      next_rule task with_inclusion (k + 1) (T.Dead 1) W.Sd (k ∷ by ∷ [])
          (λ basic. basic) (omega (arith, few)) (omega (arith, is)) (omega arith)
          start_below refl (below_two (k + 1) k by (omega arith) (omega (arith, by_below)))
          (dead, statement_at_here k (T.Sub 1 dead) W.B1 [] old, says1),
      good1,
    )

    start2 : expr_at with_dead_start 1 ≡ Some (E.Constant C.Start)
    start2 = start

    pub good_conclusion : IsGoodTable task (onto (conclusion k dead by) old)
    good_conclusion = (
      next_rule task with_dead_start (k + 2) T.Unsolvable W.Ci ((k + 1) ∷ [])
          (λ basic. basic) (omega (arith, few)) (omega (arith, is)) tt tt refl
          (below_one (k + 2) (k + 1) (omega arith))
          (1, statement_at_here (k + 1) (T.Dead 1) W.Sd (k ∷ by ∷ []) with_inclusion, start2),
      good2,
    )

  pub concludes : (old : List Line) (k dead by : ℕ) → Concludes (onto (conclusion k dead by) old)
  concludes old k dead by = (
    k + 2,
    statement_at_here (k + 2) T.Unsolvable W.Ci ((k + 1) ∷ [])
        (L.Known (k + 1) (T.Dead 1) W.Sd (k ∷ by ∷ []) ∷ L.Known k (T.Sub 1 dead) W.B1 [] ∷ old),
  )
