use Rattle.std.proofs.Common.{◌≡◌, ◌+◌, ◌<◌, ◌∙◌, ℕ, Some, subst, sym}
use Rattle.hv_lines.specs.Drafts.{onto}
use Rattle.hv_lines.specs.Numbering.{expr_count, statement_at}
use Rattle.hv_lines.specs.declared.line.Statement.TheVariants as T
use Rattle.hv_lines.specs.declared.note.Note.{Note}
use Rattle.hv_lines.proofs.Outcomes.{put_good, put_is}
use Rattle.hv_replay.specs.PrunedLines.{pruned_lines, pruned_word}
use Rattle.hv_replay.specs.Working.PrunedLines.{IsPrunedUnion}
use Rattle.hv_replay.proofs.PrunedBlock.{ShowPruned}
use Rattle.hv_replay.proofs.Putting.{IsNextOf, holder_below, next_of, put_pruned, union_as}
use Rattle.hv_replay.proofs.pruned.push_pruned.Goals as goal

pub pruned_word-word-requires : goal.pruned_word-word-requires
pruned_word-word-requires c =
    let old = c.args.draft.now.lines in
    let is_next = next_of old c.reserve.new.self.lines c.table.result.now.lines
    c.next_in-next.result c.reserve.new.self.spare
    c.table.ensures.lines c.in_ok-reserve.ensures.lines c.in_ok-reserve.ensures.few
    c.next_in-next.ensures.set c.next_in-next.ensures.line in
    let says : statement_at old c.args.by ≡ Some (T.Dead c.dead_by-holder.result.set) =
    subst (λ lines. statement_at lines c.args.by ≡ Some (T.Dead c.dead_by-holder.result.set))
    (c.table-2.ensures.lines ∙ c.in_ok-reserve.ensures.lines) c.dead_by-holder.ensures.says in
    subst (λ lines. c.dead_by-holder.result.set < expr_count lines)
    (sym (c.table-3.ensures.lines ∙ c.in_ok-reserve.ensures.lines))
    (holder_below c.args.task.now c.atoms-atoms.ensures.task old c.requires.draft c.args.held.now
    c.requires.held c.args.by c.requires.dead
    c.next_in-next.result
    c.dead_by-holder.result is_next c.dead_by-holder.ensures.line says)

pub push_all-requires-clause-good : goal.push_all-requires-clause-good
push_all-requires-clause-good c =
    let old = c.args.draft.now.lines in
    let is_next = next_of old c.reserve.new.self.lines c.table.result.now.lines
    c.next_in-next.result c.reserve.new.self.spare
    c.table.ensures.lines c.in_ok-reserve.ensures.lines c.in_ok-reserve.ensures.few
    c.next_in-next.ensures.set c.next_in-next.ensures.line in
    let says : statement_at old c.args.by ≡ Some (T.Dead c.dead_by-holder.result.set) =
    subst (λ lines. statement_at lines c.args.by ≡ Some (T.Dead c.dead_by-holder.result.set))
    (c.table-2.ensures.lines ∙ c.in_ok-reserve.ensures.lines) c.dead_by-holder.ensures.says in
    put_good c.args.task.now (pruned_lines c.next_in-next.result.set c.next_in-next.result.line
    c.args.held.now (pruned_word old c.dead_by-holder.result.set) c.dead_by-holder.result
    c.args.union) old c.in_ok-lines.lines.items c.reserve.new.self.lines
    (cc (
      c.in_ok-lines.ensures,
      c.pruned_word-word.ensures,
      c.table-3.ensures.lines,
      c.in_ok-reserve.ensures.lines,
    )) c.in_ok-reserve.ensures.lines
    (put_pruned c.args.task.now c.atoms-atoms.ensures.task old c.requires.draft c.args.held.now
    c.requires.held c.args.by c.requires.dead
    c.next_in-next.result
    c.dead_by-holder.result is_next c.dead_by-holder.ensures.line says c.requires.union.0
    c.args.union c.requires.union.1).good

is_next : (c : goal.After-struct_known-2-1) → IsNextOf c.args.draft.now.lines c.next_in-next.result
is_next c =
    next_of c.args.draft.now.lines c.reserve.new.self.lines c.table.result.now.lines
    c.next_in-next.result c.reserve.new.self.spare
    c.table.ensures.lines c.in_ok-reserve.ensures.lines c.in_ok-reserve.ensures.few
    c.next_in-next.ensures.set c.next_in-next.ensures.line

-- the lines of the draft at the end
same : (c : goal.After-struct_known-2-1) → c.push_all.new.self.lines
    ≡ onto (pruned_lines c.next_in-next.result.set c.next_in-next.result.line c.args.held.now
    (pruned_word c.args.draft.now.lines c.dead_by-holder.result.set) c.dead_by-holder.result
    c.args.union) c.args.draft.now.lines
same c =
    put_is (pruned_lines c.next_in-next.result.set c.next_in-next.result.line c.args.held.now
    (pruned_word c.args.draft.now.lines c.dead_by-holder.result.set) c.dead_by-holder.result
    c.args.union) c.args.draft.now.lines c.in_ok-lines.lines.items c.reserve.new.self.lines
    c.push_all.new.self.lines
    (cc (
      c.in_ok-lines.ensures,
      c.pruned_word-word.ensures,
      c.table-3.ensures.lines,
      c.in_ok-reserve.ensures.lines,
    )) c.in_ok-reserve.ensures.lines c.push_all.ensures.lines

-- what they show
shown : (c : goal.After-struct_known-2-1) (pruned : ℕ)
    → IsPrunedUnion c.args.draft.now.lines pruned c.args.union
    → ShowPruned c.args.task.now c.args.draft.now.lines c.push_all.new.self.lines pruned
    c.args.held.now c.args.union
    (record { set = c.next_in-next.result.set + 1; line = c.next_in-next.result.line + 2 })
shown c pruned is =
    let all : Note = record {
      set = c.next_in-next.result.set + 1;
      line = c.next_in-next.result.line + 2;
    } in
    let says : statement_at c.args.draft.now.lines c.args.by
    ≡ Some (T.Dead c.dead_by-holder.result.set) =
    subst (λ lines. statement_at lines c.args.by ≡ Some (T.Dead c.dead_by-holder.result.set))
    (c.table-2.ensures.lines ∙ c.in_ok-reserve.ensures.lines) c.dead_by-holder.ensures.says in
    subst (λ lines. ShowPruned c.args.task.now c.args.draft.now.lines lines pruned c.args.held.now
    c.args.union all) (sym (same c))
    (put_pruned c.args.task.now c.atoms-atoms.ensures.task c.args.draft.now.lines c.requires.draft
    c.args.held.now c.requires.held c.args.by c.requires.dead c.next_in-next.result
    c.dead_by-holder.result (is_next c) c.dead_by-holder.ensures.line says pruned c.args.union is)

pub returns-clause-extends : goal.returns-clause-extends
returns-clause-extends c = (
  (
    pruned_lines c.next_in-next.result.set c.next_in-next.result.line c.args.held.now
        (pruned_word c.args.draft.now.lines c.dead_by-holder.result.set) c.dead_by-holder.result
        c.args.union,
    same c,
  ),
  (shown c c.requires.union.0 c.requires.union.1).good,
)

pub returns-clause-union : goal.returns-clause-union
returns-clause-union c = λ pruned is. (shown c pruned is).union_is

pub returns-clause-keeps : goal.returns-clause-keeps
returns-clause-keeps c = (shown c c.requires.union.0 c.requires.union.1).keeps

pub returns-clause-number : goal.returns-clause-number
returns-clause-number c = union_as c.args.draft.now.lines c.next_in-next.result (is_next c)

pub returns-clause-inside : goal.returns-clause-inside
returns-clause-inside c = (shown c c.requires.union.0 c.requires.union.1).inside
