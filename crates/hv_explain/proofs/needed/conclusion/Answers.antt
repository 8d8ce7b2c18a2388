use Rattle.std.proofs.Common.{arith}
use Rattle.hv_lines.proofs.Laws.{known_below}
use Rattle.hv_lines.specs.declared.line.Statement.TheVariants as T
use Rattle.hv_explain.proofs.needed.conclusion.Goals as goal

pub returns-clause-found : goal.returns-clause-found
returns-clause-found c = λ some.
    let below = known_below c.args.table.now.lines some.0 T.Unsolvable
    c.known_count-id-end.ensures.table some.1 in
    let count = c.known_count-id-end.ensures.count in
    absurd (c.loop-id.invariant some.0 (omega arith) some.1)
