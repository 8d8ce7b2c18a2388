use Rattle.std.proofs.Common.{◌-◌, ◌+◌, refl, arith, ◌∙◌, ap}
use Rattle.hv_grammar.proofs.Going.{go, stops}
use Rattle.hv_grammar.proofs.Repeated.{turn}
use Rattle.hv_sas.proofs.read.names.Goals as goal

pub loop-done-preserved : goal.loop-done-preserved
loop-done-preserved g c =
    let i = c.loop-done.invariant in
    record {
      goes = go _ (turn _ _ _ (c.args.count - c.loop-done.done)
          (c.args.count - (c.loop-done.done + 1)) _ _ i.goes (omega arith))
          c.in_ok-one_name.ensures.reads;
      can = c.in_ok-one_name.ensures.reads.can;
      count = c.in_ok-one_name.ensures.count ∙ ap (λ n. n + 1) i.count;
      kind = refl;
    }

pub returns-in_err-one_name-clause-reads : goal.returns-in_err-one_name-clause-reads
returns-in_err-one_name-clause-reads g c =
    stops _ (turn _ _ _ (c.args.count - c.loop-done.done)
    (c.args.count - (c.loop-done.done + 1)) _ _ c.loop-done.invariant.goes (omega arith))
    c.in_err-one_name.ensures.reads c.from_residual.ensures.1
