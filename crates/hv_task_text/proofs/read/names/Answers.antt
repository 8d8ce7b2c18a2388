use Rattle.std.proofs.Common.{◌-◌, ◌+◌, ◌∙◌, ap, arith, refl}
use Rattle.hv_grammar.proofs.Going.{done, filled_err, go, stops}
use Rattle.hv_grammar.proofs.Repeated.{turn}
use Rattle.hv_task.specs.Strips.{Strips}
use Rattle.hv_task_text.proofs.Listed.{turned}
use Rattle.hv_task_text.proofs.read.names.Goals as goal

pub loop-done-preserved : goal.loop-done-preserved
loop-done-preserved g c =
    let i = c.loop-done.invariant in
    record {
      goes = go _ (turn _ _ _ (c.args.count - c.loop-done.done)
          (c.args.count - (c.loop-done.done + 1)) _ _ i.goes (omega arith))
          c.in_ok-one_name.ensures.reads;
      can = c.in_ok-one_name.ensures.reads.can;
      count = c.in_ok-one_name.ensures.count ∙ ap (λ n. n + 1) i.count;
      task = c.in_ok-one_name.ensures.task
          ∙ ap (λ (t : Strips). record t { names = c.one_name.new.task.names }) i.task;
    }

pub returns-in_err-one_name-clause-reads : goal.returns-in_err-one_name-clause-reads
returns-in_err-one_name-clause-reads g c =
    stops _ (turn _ _ _ (c.args.count - c.loop-done.done)
    (c.args.count - (c.loop-done.done + 1)) _ _ c.loop-done.invariant.goes (omega arith))
    c.in_err-one_name.ensures.reads (filled_err _ _ _ c.from_residual.ensures.1)

pub returns-clause-reads : goal.returns-clause-reads
returns-clause-reads g c =
    let i = c.loop-done.invariant in
    done _ _ _ _ _ (turned _ _ _ (c.args.count - c.loop-done.done) _ _ i.goes
    (omega arith)) i.can refl
