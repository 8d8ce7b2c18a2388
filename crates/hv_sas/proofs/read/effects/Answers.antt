use Rattle.std.proofs.Common.{◌-◌, ◌+◌, arith}
use Rattle.hv_grammar.proofs.Going.{go, stops}
use Rattle.hv_grammar.proofs.Repeated.{turn}
use Rattle.hv_sas.proofs.read.effects.Goals as goal

pub loop-done-preserved : goal.loop-done-preserved
loop-done-preserved g c =
    let i = c.loop-done.invariant in
    record {
      goes = go _ (turn _ _ _ (c.args.count - c.loop-done.done)
          (c.args.count - (c.loop-done.done + 1)) _ _ i.goes (omega arith))
          c.in_ok-effect.ensures.reads;
      can = c.in_ok-effect.ensures.reads.can;
      effects = c.in_ok-effect.ensures.effects i.effects;
      marked = c.in_ok-effect.ensures.marked;
    }

pub returns-in_err-effect-clause-reads : goal.returns-in_err-effect-clause-reads
returns-in_err-effect-clause-reads g c =
    stops _ (turn _ _ _ (c.args.count - c.loop-done.done)
    (c.args.count - (c.loop-done.done + 1)) _ _ c.loop-done.invariant.goes (omega arith))
    c.in_err-effect.ensures.reads c.from_residual-in_err-effect.ensures.1
