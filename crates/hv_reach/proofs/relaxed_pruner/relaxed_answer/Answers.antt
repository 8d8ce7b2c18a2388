use Rattle.std.proofs.Common.{◌∙◌, Some}
use Rattle.std.proofs.Common.{refl, sym, subst}
use Rattle.hv_task.specs.Strips.{atoms}
use Rattle.hv_lines.specs.Drafts.{IsGoodTable}
use Rattle.hv_lines.specs.Numbering.{expr_count, known_count}
use Rattle.hv_lines.specs.Working.Pruning.{IsOutcome}
use Rattle.hv_lines.proofs.Outcomes.{none_told, outcome_told}
use Rattle.hv_reach.specs.Pruners.{HoldsAtomsOf, IsDenied, IsRelaxedBlock}
use Rattle.hv_reach.specs.Written.{RelaxedExcludesFrom}
use Rattle.hv_reach.proofs.Described.{described_over}
use Rattle.hv_reach.proofs.Found.{relaxed_found_formula, relaxed_found_holds, relaxed_found_reason}
use Rattle.hv_reach.proofs.Writing.{horn_outcome, written_described}
use Rattle.hv_reach.proofs.relaxed_pruner.relaxed_answer.Goals as goal

pub returns-then-is_some-clause-outcome : goal.returns-then-is_some-clause-outcome
returns-then-is_some-clause-outcome c =
    outcome_told c.args.task.now (RelaxedExcludesFrom c.args.task.now)
    (IsDenied (atoms c.args.task.now))
    (IsRelaxedBlock c.args.task.now c.args.state.now c.args.draft.now.lines)
    c.args.state.now c.args.noted.now.notes.items c.args.draft.now c.requires.state c.requires.good
    c.requires.fits
    c.in_ok-told.told (sym c.is_some.ensures ∙ c.if-is_some.true) c.in_ok-told.ensures

pub write_block-requires-clause-dead : goal.write_block-requires-clause-dead
write_block-requires-clause-dead c =
    let task = c.args.task.now in
    let state = c.args.state.now in
    let size = rw c.in-Some.is at c.in_ok-row.ensures.size in
    let each = rw c.in-Some.is at c.in_ok-row.ensures.reached in
    let out = (rw c.in-Some.is at c.in_ok-row.ensures.some).0 refl in
    (relaxed_found_reason task c.in-Some.row size state each c.in_ok-clauses-in-Some.clauses
    c.in_ok-clauses-in-Some.ensures
    c.atoms-atoms.ensures.task.few_atoms c.requires.state out).dead

pub returns-in_ok-line-in-Some-clause-outcome : goal.returns-in_ok-line-in-Some-clause-outcome
returns-in_ok-line-in-Some-clause-outcome c =
    let task = c.args.task.now in
    let state = c.args.state.now in
    let size = rw c.in-Some.is at c.in_ok-row.ensures.size in
    let each = rw c.in-Some.is at c.in_ok-row.ensures.reached in
    let out = (rw c.in-Some.is at c.in_ok-row.ensures.some).0 refl in
    let lines = c.args.draft.now.lines in
    let notes = c.args.noted.now.notes.items in
    let clauses = c.in_ok-clauses-in-Some.clauses in
    let none = none_told task lines notes state c.in_ok-told.told
    (sym c.is_some.ensures ∙ c.if-is_some.false)
    c.in_ok-told.ensures in
    let wrote = c.in_ok-line-in-Some.ensures in
    subst (λ n. IsOutcome task (RelaxedExcludesFrom task) (IsDenied (atoms task))
    (IsRelaxedBlock task state lines) state
    (Some n) notes c.args.draft.now
    c.write_block.new.noted.notes.items c.write_block.new.draft) (sym wrote.line)
    (horn_outcome task lines clauses (expr_count lines) (known_count lines)
    (subst (IsGoodTable task) wrote.lines wrote.good)
    (RelaxedExcludesFrom task) state (relaxed_found_reason task c.in-Some.row size state each
    c.in_ok-clauses-in-Some.clauses c.in_ok-clauses-in-Some.ensures
    c.atoms-atoms.ensures.task.few_atoms c.requires.state out) (IsRelaxedBlock task state lines)
    notes c.requires.state c.requires.fits (
      clauses,
      relaxed_found_formula task c.in-Some.row size state each
          c.in_ok-clauses-in-Some.clauses c.in_ok-clauses-in-Some.ensures,
      (refl, refl, refl),
    ) none
    c.args.draft.now c.write_block.new.draft c.write_block.new.noted.notes.items refl
    wrote.lines wrote.notes)

pub returns-in_ok-line-in-Some-clause-described : goal.returns-in_ok-line-in-Some-clause-described
returns-in_ok-line-in-Some-clause-described c =
    let task = c.args.task.now in
    let state = c.args.state.now in
    let size = rw c.in-Some.is at c.in_ok-row.ensures.size in
    let each = rw c.in-Some.is at c.in_ok-row.ensures.reached in
    let out = (rw c.in-Some.is at c.in_ok-row.ensures.some).0 refl in
    let lines = c.args.draft.now.lines in
    let clauses = c.in_ok-clauses-in-Some.clauses in
    let wrote = c.in_ok-line-in-Some.ensures in
    written_described task lines clauses (expr_count lines) (known_count lines)
    (subst (IsGoodTable task) wrote.lines wrote.good)
    HoldsAtomsOf (RelaxedExcludesFrom task) c.args.noted.now.notes.items c.args.noted.now.rows.rows
    c.in-Some.row c.requires.fits c.requires.described size
    (relaxed_found_holds task c.in-Some.row size state each c.in_ok-clauses-in-Some.clauses
    c.in_ok-clauses-in-Some.ensures)
    c.write_block.new.draft.lines c.write_block.new.noted.notes.items
    c.write_block.new.noted.rows.rows wrote.lines wrote.notes wrote.rows

pub write_block-requires-clause-over : goal.write_block-requires-clause-over
write_block-requires-clause-over c = λ k less.
    let task = c.args.task.now in
    let size = rw c.in-Some.is at c.in_ok-row.ensures.size in
    described_over HoldsAtomsOf task c.args.draft.now.lines c.args.noted.now.notes.items
    c.args.noted.now.rows.rows c.requires.described k less ∙ sym size
