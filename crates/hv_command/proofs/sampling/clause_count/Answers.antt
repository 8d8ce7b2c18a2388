use Rattle.std.proofs.Common.{ap, length, ◌∙◌}
use Rattle.hv_command.proofs.Sampled.{horn_exprs, is_horn, same_clauses}
use Rattle.hv_command.proofs.sampling.clause_count.Goals as goal

pub expr-requires : goal.expr-requires
expr-requires c = horn_exprs c.args.table.now.lines c.requires

pub returns : goal.returns
returns c = λ clauses e.
    c.len.ensures
    ∙ ap length (same_clauses c.args.table.now.lines c.expr.result.now c.in-Horn.clauses clauses
    c.in-Horn.is c.expr.ensures.says e)

pub unreachable-requires : goal.unreachable-requires
unreachable-requires c =
    let horn = is_horn c.args.table.now.lines c.expr.result.now c.requires c.expr.ensures.says in
    c.in_default.not-Horn horn.0 horn.1
