use Rattle.std.proofs.Common.{◌-◌, ◌+◌, length, arith, ◌∙◌, ap}
use Rattle.hv_grammar.proofs.Going.{go, stops}
use Rattle.hv_grammar.proofs.Repeated.{turn}
use Rattle.hv_sas.proofs.read.values.Goals as goal

pub loop-var-preserved : goal.loop-var-preserved
loop-var-preserved g c =
    let i = c.loop-var.invariant in
    record {
      goes = go _ (turn _ _ _ (length c.args.variables.now - c.loop-var.var)
          (length c.args.variables.now - (c.loop-var.var + 1)) _ _ i.goes
          (omega (arith, c.len-var-end.ensures)))
          c.in_ok-value.ensures.reads;
      can = c.in_ok-value.ensures.reads.can;
      count = c.in_ok-value.ensures.count ∙ ap (λ n. n + 1) i.count;
      within = c.in_ok-value.ensures.within i.within;
    }

pub returns-in_err-value-clause-reads : goal.returns-in_err-value-clause-reads
returns-in_err-value-clause-reads g c =
    stops _ (turn _ _ _ (length c.args.variables.now - c.loop-var.var)
    (length c.args.variables.now - (c.loop-var.var + 1)) _ _ c.loop-var.invariant.goes
    (omega (arith, c.len-var-end.ensures)))
    c.in_err-value.ensures.reads c.from_residual.ensures.1
