use Rattle.hv_lines.specs.declared.line.Expr.TheVariants as E
use Rattle.hv_lines.proofs.Laws.{expr_below}
use Rattle.hv_trap.proofs.notes.negated.Goals as goal

pub expr-requires : goal.expr-requires
expr-requires c =
    expr_below c.args.table.now.lines c.args.set (E.Not c.requires.not.0)
    c.requires.table c.requires.not.1
