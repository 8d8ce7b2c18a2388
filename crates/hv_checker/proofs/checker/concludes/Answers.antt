use Rattle.std.proofs.Common.{arith}
use Rattle.hv_lines.proofs.Laws.{known_below}
use Rattle.hv_lines.specs.declared.line.Statement.TheVariants as T
use Rattle.hv_checker.proofs.checker.concludes.Goals as goal

pub returns : goal.returns
returns c = (
  λ no. absurd (cc),
  λ some.
      let table = c.known_count-premise-end.ensures.table in
      let below = known_below c.args.table.now.lines some.0 T.Unsolvable table some.1 in
      let count = c.known_count-premise-end.ensures.count in
      absurd (c.loop-premise.invariant some.0 (omega arith) some.1),
)
