use Rattle.std.proofs.Common.{◌-◌, ◌+◌, arith}
use Rattle.hv_grammar.proofs.Going.{go, stops}
use Rattle.hv_grammar.proofs.Repeated.{turn}
use Rattle.hv_sas.proofs.read.facts.Goals as goal

pub loop-done-preserved : goal.loop-done-preserved
loop-done-preserved g c =
    let i = c.loop-done.invariant in
    record {
      goes = go _ (turn _ _ _ (c.args.count - c.loop-done.done)
          (c.args.count - (c.loop-done.done + 1)) _ _ i.goes (omega arith))
          c.in_ok-one_fact.ensures.reads;
      can = c.in_ok-one_fact.ensures.reads.can;
      facts = c.in_ok-one_fact.ensures.facts i.facts;
    }

pub returns-in_err-one_fact-clause-reads : goal.returns-in_err-one_fact-clause-reads
returns-in_err-one_fact-clause-reads g c =
    stops _ (turn _ _ _ (c.args.count - c.loop-done.done)
    (c.args.count - (c.loop-done.done + 1)) _ _ c.loop-done.invariant.goes (omega arith))
    c.in_err-one_fact.ensures.reads c.from_residual.ensures.1
