use Rattle.std.proofs.Common.{arith}
use Rattle.hv_formula.proofs.Forced.{lone_is}
use Rattle.hv_formula.proofs.closure.lone_literal.Goals as goal

pub returns : goal.returns
returns c =
    lone_is c.args.clauses.now c.get-clause.result.now (let a = c.len.ensures in omega arith)
    c.get-clause.ensures (omega arith) _
