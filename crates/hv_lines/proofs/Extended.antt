-- Drafts that grow: what they showed of states stays so.
use Rattle.std.proofs.Common.{◌≡◌, ℕ, ◌<◌, ◌≤◌, ◌∙◌, ◌++◌, Bool, List, [], ◌∷◌, Some, length}
use Rattle.std.proofs.Common.{slice_get, refl, sym, ap, subst, inl, inr, arith, rules}
use Rattle.std.proofs.lemmas.Bool.{cases_lt}
use Rattle.std.proofs.lemmas.Option.{same_Some}
use Rattle.hv_task.specs.Strips.{Strips, atoms}
use Rattle.hv_bdd.specs.Nodes.{NodeList, no_nodes}
use Rattle.hv_lines.specs.Drafts.{IsGoodTable, onto, prelude}
use Rattle.hv_lines.specs.Literals.{IsLiteral, IsPlainSet}
use Rattle.hv_lines.specs.Meaning.{SetOfStates, sets_of}
use Rattle.hv_lines.specs.Numbering.{IsTable, acts_at, expr_at, expr_count, known_count}
use Rattle.hv_lines.specs.Numbering.{statement_at}
use Rattle.hv_lines.specs.Pruning.{BeginsAsDraft, DeniesFew, Extends, GoesOn, IsDeadBy}
use Rattle.hv_lines.specs.Pruning.{IsDeadLiteral, IsFirstNoted, IsNoted, states_in}
use Rattle.hv_lines.specs.declared.line.Acts.TheVariants as A
use Rattle.hv_lines.specs.declared.line.Constant.TheVariants as C
use Rattle.hv_lines.specs.declared.line.Expr.{Expr}
use Rattle.hv_lines.specs.declared.line.Expr.TheVariants as E
use Rattle.hv_lines.specs.declared.line.Line.{Line}
use Rattle.hv_lines.specs.declared.line.Line.TheVariants as L
use Rattle.hv_lines.specs.declared.line.Statement.{Statement}
use Rattle.hv_lines.specs.declared.line.Statement.TheVariants as T
use Rattle.hv_lines.specs.declared.note.Note.{Note}
use Rattle.hv_lines.proofs.Carried.{acts_onto, expr_onto, known_onto, table_before}
use Rattle.hv_lines.proofs.Drafting.{good_before, table_of}
use Rattle.hv_lines.proofs.Laws.{expr_below, expr_within, exprs_grow, refers_below, sets_more}

-- lines after lines

pub onto-append : (more further lines : List Line)
    → onto (more ++ further) lines ≡ onto further (onto more lines)
onto-append [] further lines = refl
onto-append (line ∷ more) further lines = onto-append more further (line ∷ lines)

pub goes_on_none : (lines : List Line) → GoesOn lines lines
goes_on_none lines = ([], refl)

pub goes_on_by : (more lines : List Line) → GoesOn lines (onto more lines)
goes_on_by more lines = (more, refl)

pub goes_on_then : (old now new : List Line) → GoesOn old now → GoesOn now new → GoesOn old new
goes_on_then old now new (more, is) (further, also) =
    (more ++ further, also ∙ (ap (onto further) is ∙ sym (onto-append more further old)))

pub goes_on_push : (old now : List Line) (line : Line) → GoesOn old now → GoesOn old (line ∷ now)
goes_on_push old now line goes = goes_on_then old now (line ∷ now) goes (line ∷ [], refl)

-- there are no more statements than lines
pub knowns_few : (lines : List Line) → known_count lines ≤ length lines
knowns_few [] = omega arith
knowns_few (L.Acts id acts ∷ older) = omega (arith, knowns_few older)
knowns_few (L.Expr id expr ∷ older) = omega (arith, knowns_few older)
knowns_few (L.Known id statement word premises ∷ older) = omega (arith, knowns_few older)

-- nor more sets
pub exprs_few : (lines : List Line) → expr_count lines ≤ length lines
exprs_few [] = omega arith
exprs_few (L.Acts id acts ∷ older) = omega (arith, exprs_few older)
exprs_few (L.Expr id expr ∷ older) = omega (arith, exprs_few older)
exprs_few (L.Known id statement word premises ∷ older) = omega (arith, exprs_few older)

-- extensions

pub extends_none : (task : Strips) (lines : List Line) → IsGoodTable task lines
    → Extends task lines lines
extends_none task lines good = (goes_on_none lines, good)

pub extends_by : (task : Strips) (more lines : List Line) → IsGoodTable task (onto more lines)
    → Extends task lines (onto more lines)
extends_by task more lines good = (goes_on_by more lines, good)

pub extends_then : (task : Strips) (old now new : List Line) → Extends task old now
    → Extends task now new → Extends task old new
extends_then task old now new first second = (goes_on_then old now new first.0 second.0, second.1)

-- a set keeps its states
pub sets_onto : (task : Strips) (nodes : NodeList) (more lines : List Line) (set : ℕ)
    → IsTable (onto more lines) → set < expr_count lines
    → sets_of task nodes (onto more lines) set ≡ sets_of task nodes lines set
sets_onto task nodes [] lines set table below = refl
sets_onto task nodes (line ∷ more) lines set table below =
    sets_onto task nodes more (line ∷ lines) set table (omega (arith, below, exprs_grow line lines))
    ∙ sets_more task nodes line lines set (table_before more (line ∷ lines) table).0 below

module _ (task : Strips) (old new : List Line) (extends : Extends task old new) where
  -- the old lines are those of a good draft too
  pub good_extended : IsGoodTable task old
  good_extended = good_before task extends.0.0 old (subst (IsGoodTable task) extends.0.1 extends.1)

  table : IsTable old
  table = table_of task old good_extended

  table_new : IsTable (onto extends.0.0 old)
  table_new = subst IsTable extends.0.1 (table_of task new extends.1)

  pub expr_extended : (id : ℕ) (expr : Expr) → expr_at old id ≡ Some expr
      → expr_at new id ≡ Some expr
  expr_extended id expr at =
      subst (λ lines. expr_at lines id ≡ Some expr) (sym extends.0.1)
      (expr_onto extends.0.0 old id expr table_new at)

  pub statement_extended : (id : ℕ) (statement : Statement) → statement_at old id ≡ Some statement
      → statement_at new id ≡ Some statement
  statement_extended id statement at =
      subst (λ lines. statement_at lines id ≡ Some statement) (sym extends.0.1)
      (known_onto extends.0.0 old id statement table_new at)

  pub states_extended : (set : ℕ) → set < expr_count old
      → states_in task new set ≡ states_in task old set
  states_extended set below =
      ap (λ lines. states_in task lines set) extends.0.1
      ∙ sets_onto task (no_nodes (atoms task)) extends.0.0 old set table_new below

  plain_extended : (set : ℕ) → IsPlainSet old set → IsPlainSet new set
  plain_extended set (expr, at, plain) = (expr, expr_extended set expr at, plain)

  literal_extended : (set : ℕ) → IsLiteral old set → IsLiteral new set
  literal_extended set (inl plain) = inl (plain_extended set plain)
  literal_extended set (inr (inner, at, plain)) = inr
      (inner, expr_extended set (E.Not inner) at, plain_extended inner plain)

  -- a literal is among the old sets
  pub literal_below : (set : ℕ) → IsLiteral old set → set < expr_count old
  literal_below set (inl (expr, at, plain)) = expr_below old set expr table at
  literal_below set (inr (inner, at, plain)) = expr_below old set (E.Not inner) table at

  few_extended : (set : ℕ) → set < expr_count old → DeniesFew old set → DeniesFew new set
  few_extended set below few inner states at listed =
      let found = expr_within old set table below in
      let is : found.0 ≡ E.Not inner = same_Some found.0 (E.Not inner)
      (sym (expr_extended set found.0 found.1) ∙ at) in
      let says : expr_at old set ≡ Some (E.Not inner) = found.1 ∙ ap Some is in
      let behind = expr_within old inner table (refers_below old set (E.Not inner) table says) in
      let also : behind.0 ≡ E.States states =
      same_Some behind.0 (E.States states) (sym (expr_extended inner behind.0 behind.1) ∙ listed) in
      few inner states says (behind.1 ∙ ap Some also)

  pub dead_literal_extended : (set line : ℕ) → IsDeadLiteral old set line
      → IsDeadLiteral new set line
  dead_literal_extended set line dead = record {
    literal = literal_extended set dead.literal;
    says = statement_extended line (T.Dead set) dead.says;
    few = few_extended set (literal_below set dead.literal) dead.few;
  }

  pub noted_extended : (covered : SetOfStates) (note : Note) → IsNoted task covered old note
      → IsNoted task covered new note
  noted_extended covered note noted = record {
    dead = dead_literal_extended note.set note.line noted.dead;
    within = λ state is_state inside.
        noted.within state is_state
        (subst (λ (S : SetOfStates). S state) (states_extended note.set
        (literal_below note.set noted.dead.literal)) inside);
  }

-- a note whose literal holds a state shows that the state is dead
pub noted_dead : (task : Strips) (covered : SetOfStates) (lines : List Line) (note : Note)
    (state : List Bool)
    → IsNoted task covered lines note → states_in task lines note.set state
    → IsDeadBy task lines state note.line
noted_dead task covered lines note state noted holds = record
    { set = note.set; dead = noted.dead; holds = holds }

-- the lines have those with which every draft begins
pub record HasPrelude (lines : List Line) : Type 0 where
  pub all : acts_at lines 0 ≡ Some A.All
  pub empty : expr_at lines 0 ≡ Some (E.Constant C.Empty)
  pub start : expr_at lines 1 ≡ Some (E.Constant C.Start)
  pub goal : expr_at lines 2 ≡ Some (E.Constant C.Goal)
  pub empty_dead : statement_at lines 0 ≡ Some (T.Dead 0)

pub prelude_onto : (more lines : List Line) → IsTable (onto more lines) → HasPrelude lines
    → HasPrelude (onto more lines)
prelude_onto more lines table has = record {
  all = acts_onto more lines 0 A.All table has.all;
  empty = expr_onto more lines 0 (E.Constant C.Empty) table has.empty;
  start = expr_onto more lines 1 (E.Constant C.Start) table has.start;
  goal = expr_onto more lines 2 (E.Constant C.Goal) table has.goal;
  empty_dead = known_onto more lines 0 (T.Dead 0) table has.empty_dead;
}

pub prelude_has : HasPrelude (onto prelude [])
prelude_has = record { all = refl; empty = refl; start = refl; goal = refl; empty_dead = refl }

-- every draft has them
pub prelude_begins : (task : Strips) (lines : List Line) → BeginsAsDraft lines
    → IsGoodTable task lines → HasPrelude lines
prelude_begins task lines begins good =
    subst HasPrelude (sym begins.1)
    (prelude_onto begins.0 (onto prelude []) (subst IsTable begins.1 (table_of task lines good))
    prelude_has)

-- which line answers by the notes is determined
pub first_noted_once : (task : Strips) (lines : List Line) (notes : List Note) (state : List Bool)
    (a b : ℕ)
    → IsFirstNoted task lines notes state a → IsFirstNoted task lines notes state b → a ≡ b
first_noted_once task lines notes state a b first also =
    elim (cases_lt first.place also.place) [
      | inl less ↦ absurd (also.first first.place first.note (omega (arith, less)) first.at
          first.holds)
      | inr upto ↦ elim (cases_lt also.place first.place) [
        | inl less ↦ absurd (first.first also.place also.note (omega (arith, less)) also.at
            also.holds)
        | inr back ↦
            let place : first.place ≡ also.place = omega (arith, upto, back) in
            let same : first.note ≡ also.note =
            same_Some first.note also.note (sym first.at ∙ (ap (slice_get notes) place ∙ also.at))
            in
            sym first.by ∙ (ap (λ (n : Note). n.line) same ∙ also.by)
      ]
    ]

-- the lines with which every draft begins are a table
pub prelude_table : IsTable (onto prelude [])
prelude_table = search rules
