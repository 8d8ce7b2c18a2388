use Rattle.std.proofs.Common.{◌-◌, ◌+◌, arith}
use Rattle.hv_grammar.proofs.Going.{go, stops}
use Rattle.hv_grammar.proofs.Repeated.{turn}
use Rattle.hv_sas.proofs.read.variables.Goals as goal

pub loop-done-preserved : goal.loop-done-preserved
loop-done-preserved g c =
    let i = c.loop-done.invariant in
    record {
      goes = go _ (turn _ _ _ (c.args.count - c.loop-done.done)
          (c.args.count - (c.loop-done.done + 1)) _ _ i.goes (omega arith))
          c.in_ok-variable.ensures.reads;
      can = c.in_ok-variable.ensures.reads.can;
      used = c.in_ok-variable.ensures.used;
      variables = c.in_ok-variable.ensures.variables;
    }

pub returns-in_err-variable-clause-reads : goal.returns-in_err-variable-clause-reads
returns-in_err-variable-clause-reads g c =
    stops _ (turn _ _ _ (c.args.count - c.loop-done.done)
    (c.args.count - (c.loop-done.done + 1)) _ _ c.loop-done.invariant.goes (omega arith))
    c.in_err-variable.ensures.reads c.from_residual.ensures.1
