use Rattle.std.proofs.Common.{◌∙◌, ap, subst, sym}
use Rattle.hv_lines.specs.Drafts.{onto}
use Rattle.hv_lines.specs.Numbering.{expr_count, known_count}
use Rattle.hv_reach.specs.Reached.{has_pair}
use Rattle.hv_reach.specs.Working.NoteRows.{AreRowsOver}
use Rattle.hv_reach.specs.Working.Written.{IsDeadEnd}
use Rattle.hv_reach.specs.Written.{dead_block, pairs_formula}
use Rattle.hv_reach.proofs.pair_pruner.write_pairs.Goals as goal

pub write_block-requires-clause-dead : goal.write_block-requires-clause-dead
write_block-requires-clause-dead c =
    subst (IsDeadEnd c.args.task.now) (sym (c.in_ok-clauses.ensures
    ∙ ap (λ n. pairs_formula n (has_pair c.args.pairs.now)) c.atoms.ensures.atoms))
    c.requires.dead

pub write_block-requires-clause-over : goal.write_block-requires-clause-over
write_block-requires-clause-over c =
    subst (λ n. AreRowsOver n c.args.noted.now.rows.rows) (sym c.in_ok-row.ensures.0)
    c.requires.over

pub returns-clause-lines : goal.returns-clause-lines
returns-clause-lines c =
    let lines = c.args.draft.now.lines in
    c.in_ok-line.ensures.lines
    ∙ ap (λ cs. onto (dead_block (expr_count lines) (known_count lines) cs) lines)
    (c.in_ok-clauses.ensures
    ∙ ap (λ n. pairs_formula n (has_pair c.args.pairs.now)) c.atoms.ensures.atoms)

pub returns-clause-line : goal.returns-clause-line
returns-clause-line c = c.in_ok-line.ensures.line

pub returns-clause-notes : goal.returns-clause-notes
returns-clause-notes c = c.in_ok-line.ensures.notes

pub returns-clause-rows : goal.returns-clause-rows
returns-clause-rows c = (c.in_ok-row.row, c.in_ok-row.ensures, c.in_ok-line.ensures.rows)

pub returns-clause-good : goal.returns-clause-good
returns-clause-good c = c.in_ok-line.ensures.good
