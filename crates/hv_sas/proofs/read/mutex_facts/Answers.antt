use Rattle.std.proofs.Common.{◌-◌, ◌+◌, arith}
use Rattle.hv_grammar.proofs.Going.{go, stops}
use Rattle.hv_grammar.proofs.Repeated.{turn}
use Rattle.hv_sas.proofs.read.mutex_facts.Goals as goal

pub loop-done-preserved : goal.loop-done-preserved
loop-done-preserved g c =
    let i = c.loop-done.invariant in
    record {
      goes = go _ (turn _ _ _ (c.args.count - c.loop-done.done)
          (c.args.count - (c.loop-done.done + 1)) _ _ i.goes (omega arith))
          c.in_ok-mutex_fact.ensures;
      can = c.in_ok-mutex_fact.ensures.can;
    }

pub returns-in_err-mutex_fact : goal.returns-in_err-mutex_fact
returns-in_err-mutex_fact g c =
    stops _ (turn _ _ _ (c.args.count - c.loop-done.done)
    (c.args.count - (c.loop-done.done + 1)) _ _ c.loop-done.invariant.goes (omega arith))
    c.in_err-mutex_fact.ensures c.from_residual.ensures.1
