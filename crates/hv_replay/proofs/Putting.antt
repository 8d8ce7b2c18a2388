-- The lines that are put into a draft: those of a pruned state, and those with which a replay ends.
use Rattle.std.proofs.Common.{◌≡◌, ℕ, ◌+◌, ◌<◌, ◌≤◌, ◌^◌, ◌-◌, ◌∙◌, List, Some, length, sym}
use Rattle.std.proofs.Common.{ap, subst, arith}
use Rattle.hv_task.specs.State.{state_of}
use Rattle.hv_task.specs.Strips.{Strips, IsTask, atoms}
use Rattle.hv_lines.specs.Drafts.{IsGoodTable, IsShortLine, conclusion, most_lines, onto}
use Rattle.hv_lines.specs.Numbering.{expr_count, known_count, statement_at}
use Rattle.hv_lines.specs.Pruning.{BeginsAsDraft, IsDeadBy, states_in}
use Rattle.hv_lines.specs.declared.line.Expr.TheVariants as E
use Rattle.hv_lines.specs.declared.line.Line.{Line}
use Rattle.hv_lines.specs.declared.line.Line.TheVariants as L
use Rattle.hv_lines.specs.declared.line.Statement.TheVariants as T
use Rattle.hv_lines.proofs.Drafting.{table_of}
use Rattle.hv_lines.proofs.Extended.{exprs_few, knowns_few, prelude_begins}
use Rattle.hv_lines.proofs.Laws.{speaks_at}
use Rattle.hv_replay.specs.ClosingLines.{closing_block}
use Rattle.hv_replay.specs.Working.ClosingLines.{IsClosedSearch}
use Rattle.hv_replay.specs.Logs.{IsAtomSet}
use Rattle.hv_replay.specs.PrunedLines.{pruned_lines, pruned_word}
use Rattle.hv_replay.specs.Working.PrunedLines.{IsPrunedUnion, most_pruned}
use Rattle.hv_replay.specs.Replayed.{union_after}
use Rattle.hv_lines.specs.declared.note.Note.{Note}
use Rattle.hv_replay.proofs.ClosingBlock.{good_closing, good_closing_block}
use Rattle.hv_replay.proofs.PrunedBlock.{ShowPruned, shown_pruned}
use Rattle.hv_replay.proofs.Unions.{IsHeld, held_by}

-- The draft has room, and `next` has the identifiers of its next set and statement.
pub record IsNextOf (old : List Line) (next : Note) : Type 0 where
  pub set : next.set ≡ expr_count old
  pub line : next.line ≡ known_count old
  pub few_sets : next.set < 10 ^ 18 - 10
  pub few_lines : next.line < 10 ^ 18 - 10

pub next_of : (old now table : List Line) (next : Note) (spare : ℕ) → table ≡ now → now ≡ old
    → length now + spare ≤ most_lines
    → next.set ≡ expr_count table → next.line ≡ known_count table → IsNextOf old next
next_of old now table next spare same was few set line =
    let is_set : next.set ≡ expr_count old = set ∙ ap expr_count (same ∙ was) in
    let is_line : next.line ≡ known_count old = line ∙ ap known_count (same ∙ was) in
    let size : length now ≡ length old = ap length was in
    record {
      set = is_set;
      line = is_line;
      few_sets = omega (arith, is_set, size, few, exprs_few old);
      few_lines = omega (arith, is_line, size, few, knowns_few old);
    }

module _ (task : Strips) (is_task : IsTask task) (old : List Line) (good : IsGoodTable task old)
    (held : List ℕ)
    (atom_set : IsAtomSet (atoms task) held) (by : ℕ)
    (dead : IsDeadBy task old (state_of (atoms task) held) by) (next holder : Note)
    (is_next : IsNextOf old next) (holder_line : holder.line ≡ by)
    (says : statement_at old by ≡ Some (T.Dead holder.set)) where
  is_held : IsHeld task old held holder
  is_held =
      held_by task old held holder (subst (IsDeadBy task old (state_of (atoms task) held))
      (sym holder_line) dead)
      (subst (λ line. statement_at old line ≡ Some (T.Dead holder.set)) (sym holder_line) says)

  pub holder_below : holder.set < expr_count old
  holder_below = speaks_at old by (T.Dead holder.set) (table_of task old good) says

  module _ (pruned : ℕ) (union : Note) (is_union : IsPrunedUnion old pruned union) where
    pub put_pruned : ShowPruned task old (onto
        (pruned_lines next.set next.line held (pruned_word old holder.set) holder union) old) pruned
        held union (record { set = next.set + 1; line = next.line + 2 })
    put_pruned =
        shown_pruned task is_task old good next.set next.line pruned held holder union is_next.set
        is_next.line (omega (arith, is_next.few_sets))
        (omega (arith, is_next.few_lines)) atom_set is_held is_union

module _ (task : Strips) (is_task : IsTask task) (old : List Line) (good : IsGoodTable task old)
    (begins : BeginsAsDraft old)
    (next : Note) (is_next : IsNextOf old next) (states : List (List ℕ)) (union : Note) (count : ℕ)
    (count_few : count ≤ most_pruned)
    (is_union : IsPrunedUnion old count union)
    (short : IsShortLine (L.Expr (expr_count old) (E.States states)))
    (closed : IsClosedSearch task states (states_in task old union.set)) where
  is_short : IsShortLine (L.Expr next.set (E.States states))
  is_short = subst (λ n. IsShortLine (L.Expr n (E.States states))) (sym is_next.set) short

  pub put_block : IsGoodTable task (onto (closing_block next.set next.line states union) old)
  put_block =
      good_closing_block task is_task old good (prelude_begins task old begins good) next.set
      next.line count states union is_next.set
      is_next.line (omega (arith, is_next.few_sets)) (omega (arith, is_next.few_lines)) is_union
      count_few is_short closed

  pub put_closing : IsGoodTable task
      (onto (conclusion (next.line + 5) (next.set + 2) (next.line + 4))
      (onto (closing_block next.set next.line states union) old))
  put_closing =
      good_closing task is_task old good (prelude_begins task old begins good) next.set next.line
      count states union is_next.set
      is_next.line (omega (arith, is_next.few_sets)) (omega (arith, is_next.few_lines)) is_union
      count_few is_short closed

-- the new union by the numbers of the next set and statement
pub union_as : (old : List Line) (next : Note) → IsNextOf old next
    → ◌≡◌ {A = Note} (record { set = next.set + 1; line = next.line + 2 }) (union_after old)
union_as old next is =
    let dead : ℕ → ℕ → Note = λ s k. record { set = s + 1; line = k + 2 } in
    ap (λ s. dead s next.line) is.set ∙ ap (λ k. dead (expr_count old) k) is.line
