use Rattle.std.proofs.Common.{◌∙◌, ap, arith, false, subst, sym}
use Rattle.hv_lines.specs.Drafts.{IsGoodTable}
use Rattle.hv_lines.specs.Numbering.{expr_count, known_count}
use Rattle.hv_lines.specs.declared.line.Expr.TheVariants as E
use Rattle.hv_lines.proofs.Blocks.{block_good}
use Rattle.hv_trap.proofs.Block.{trap_dead}
use Rattle.hv_trap.proofs.Formulas.{trap_formula}
use Rattle.hv_trap.proofs.notes.write_block.Goals as goal

pub push_all-requires-clause-good : goal.push_all-requires-clause-good
push_all-requires-clause-good c =
    block_good c.args.task.now false (E.Two c.args.clauses) c.args.clauses
    (trap_dead c.args.task.now c.args.clauses
    (trap_formula c.args.task.now c.args.clauses c.requires.few c.requires.trap))
    c.args.draft.now.lines c.reserve-2.new.self.lines c.in_ok-block.block.items
    c.expr_count-set.result c.known_count-id.result c.table.ensures.begins c.requires.good
    (omega (arith, c.in_ok-reserve-2.ensures.few, c.in_ok-reserve-2.ensures.spare))
    c.in_ok-reserve-2.ensures.lines (c.expr_count-set.ensures.count ∙ ap expr_count
    c.table.ensures.lines) (c.known_count-id.ensures.count ∙ ap known_count
    c.table-2.ensures.lines) c.in_ok-block.ensures

pub returns-clause-good : goal.returns-clause-good
returns-clause-good c =
    subst (IsGoodTable c.args.task.now) (sym c.push_all.ensures.lines)
    (block_good c.args.task.now false (E.Two c.args.clauses) c.args.clauses
    (trap_dead c.args.task.now c.args.clauses
    (trap_formula c.args.task.now c.args.clauses c.requires.few c.requires.trap))
    c.args.draft.now.lines c.reserve-2.new.self.lines c.in_ok-block.block.items
    c.expr_count-set.result c.known_count-id.result c.table.ensures.begins c.requires.good
    (omega (arith, c.in_ok-reserve-2.ensures.few, c.in_ok-reserve-2.ensures.spare))
    c.in_ok-reserve-2.ensures.lines (c.expr_count-set.ensures.count ∙ ap expr_count
    c.table.ensures.lines) (c.known_count-id.ensures.count ∙ ap known_count
    c.table-2.ensures.lines) c.in_ok-block.ensures)
