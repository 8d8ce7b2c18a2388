use Rattle.std.proofs.Common.{◌∙◌, List, Option, Some, is_some, slice_get, ap, refl, sym, subst}
use Rattle.std.specs.Option.{IfSome, SomeIff}
use Rattle.hv_sets.specs.declared.literal.Literal.{Literal}
use Rattle.hv_lines.specs.Drafts.{IsGoodTable}
use Rattle.hv_lines.specs.Numbering.{IsTable, expr_count, known_count}
use Rattle.hv_lines.specs.Pruning.{states_in}
use Rattle.hv_lines.specs.declared.line.Line.{Line}
use Rattle.hv_lines.specs.declared.note.Note.{Note}
use Rattle.hv_lines.specs.Working.Pruning.{IsOutcome}
use Rattle.hv_trap.specs.Pruner.{IsTrapBlock, IsTrapSet, TrapCovers}
use Rattle.hv_trap.specs.Trap.{AreTrapClauses}
use Rattle.hv_lines.proofs.Drafting.{table_of}
use Rattle.hv_trap.proofs.Writing.{none_noted, outcome_first, trap_outcome}
use Rattle.hv_trap.proofs.trap_pruner.trap_answer.Goals as goal

pub line_for-requires-clause-table : goal.line_for-requires-clause-table
line_for-requires-clause-table c =
    subst IsTable (sym c.table.ensures.lines)
    (table_of c.args.task.now c.args.draft.now.lines c.requires.good)

pub line_for-requires-clause-set : goal.line_for-requires-clause-set
line_for-requires-clause-set c =
    subst (λ (ls : List Line). IsTrapSet c.args.task.now ls c.in-Some.note.set)
    (sym c.table.ensures.lines)
    (c.requires.fits 0 c.in-Some.note
    (ap (λ (xs : List Note). slice_get xs 0) (sym c.as_slice.ensures.value)
    ∙ (sym c.first.ensures.value ∙ (sym c.copied.ensures ∙ c.in-Some.is)))).1

pub returns-in-Some-clause-outcome : goal.returns-in-Some-clause-outcome
returns-in-Some-clause-outcome c =
    outcome_first c.args.task.now c.args.state.now c.args.notes.now.items c.args.draft.now
    c.requires.state c.requires.good c.requires.fits
    c.in-Some.note
    (ap (λ (xs : List Note). slice_get xs 0) (sym c.as_slice.ensures.value)
    ∙ (sym c.first.ensures.value ∙ (sym c.copied.ensures ∙ c.in-Some.is)))
    c.line_for.result
    (subst (λ (ls : List Line). SomeIff c.line_for.result
    (states_in c.args.task.now ls c.in-Some.note.set c.args.state.now) c.in-Some.note.line)
    c.table.ensures.lines c.line_for.ensures)

pub returns-in_ok-line-in-Some-2-clause-outcome : goal.returns-in_ok-line-in-Some-2-clause-outcome
returns-in_ok-line-in-Some-2-clause-outcome c =
    let task = c.args.task.now in
    let lines = c.args.draft.now.lines in
    let notes = c.args.notes.now.items in
    let clauses = c.in-Some-2.clauses in
    let none = none_noted task lines notes c.args.state.now (λ note at.
    c.in_default.not-Some note
    (c.copied.ensures ∙ (c.first.ensures.value
    ∙ (ap (λ (xs : List Note). slice_get xs 0) c.as_slice.ensures.value ∙ at)))) in
    let trap = subst (λ (f : Option (List (List Literal))). IfSome f (AreTrapClauses task))
    c.in-Some-2.is c.in_ok-clauses.ensures.trap in
    let covered = c.in_ok-clauses.ensures.some.0
    (ap (λ (f : Option (List (List Literal))). is_some f) c.in-Some-2.is) in
    let wrote = c.in_ok-line-in-Some-2.ensures in
    subst (λ n. IsOutcome task (TrapCovers task) (IsTrapSet task) (IsTrapBlock task lines)
    c.args.state.now (Some n) notes c.args.draft.now
    c.write_block.new.notes.items c.write_block.new.draft)
    (sym wrote.line)
    (trap_outcome task lines clauses (expr_count lines) (known_count lines)
    (subst (IsGoodTable task) wrote.lines wrote.good) covered.0
    trap c.args.state.now c.requires.state covered notes c.requires.fits none
    (clauses, trap, refl, refl, refl) c.args.draft.now c.write_block.new.draft
    c.write_block.new.notes.items refl wrote.lines wrote.notes)
