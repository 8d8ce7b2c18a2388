use Rattle.std.proofs.Common.{◌∙◌, ap, subst, sym, true}
use Rattle.hv_lines.specs.Drafts.{IsGoodTable}
use Rattle.hv_lines.specs.Numbering.{expr_count, known_count}
use Rattle.hv_lines.specs.declared.line.Expr.TheVariants as E
use Rattle.hv_lines.proofs.Blocks.{block_good}
use Rattle.hv_reach.proofs.Block.{horn_dead}
use Rattle.hv_reach.proofs.notes.write_block.Goals as goal

pub push_all-requires-clause-good : goal.push_all-requires-clause-good
push_all-requires-clause-good c =
    block_good c.args.task.now true (E.Horn c.args.clauses) c.args.clauses
    (horn_dead c.args.task.now c.requires.task c.args.clauses c.requires.dead)
    c.args.draft.now.lines c.take_room.new.draft.lines c.in_ok-block.block.items
    c.expr_count-set.result c.known_count-id.result c.table.ensures.begins c.requires.good
    c.in_ok-take_room.ensures.few c.take_room.ensures.lines (c.expr_count-set.ensures.count
    ∙ ap expr_count c.table.ensures.lines) (c.known_count-id.ensures.count ∙ ap known_count
    c.table-2.ensures.lines) c.in_ok-block.ensures

pub returns-clause-good : goal.returns-clause-good
returns-clause-good c =
    subst (IsGoodTable c.args.task.now) (sym c.push_all.ensures.lines)
    (block_good c.args.task.now true (E.Horn c.args.clauses) c.args.clauses
    (horn_dead c.args.task.now c.requires.task c.args.clauses c.requires.dead)
    c.args.draft.now.lines c.take_room.new.draft.lines c.in_ok-block.block.items
    c.expr_count-set.result c.known_count-id.result c.table.ensures.begins c.requires.good
    c.in_ok-take_room.ensures.few c.take_room.ensures.lines (c.expr_count-set.ensures.count
    ∙ ap expr_count c.table.ensures.lines) (c.known_count-id.ensures.count ∙ ap known_count
    c.table-2.ensures.lines) c.in_ok-block.ensures)
