use Rattle.std.proofs.Common.{◌-◌, ◌+◌, ◌∙◌, ap, arith, refl}
use Rattle.hv_grammar.proofs.Going.{done, filled_err}
use Rattle.hv_grammar.proofs.Repeated.{turn}
use Rattle.hv_grammar.specs.Parsers.{one_more}
use Rattle.hv_task.specs.Strips.{Strips, atoms}
use Rattle.hv_task_text.specs.TaskFile.{action}
use Rattle.hv_task_text.proofs.Listed.{go_as, stops_as, turned}
use Rattle.hv_task_text.proofs.read.actions.Goals as goal

pub loop-done-preserved : goal.loop-done-preserved
loop-done-preserved g c =
    let i = c.loop-done.invariant in
    record {
      goes = go_as (λ n. one_more (action n) c.loop-done.task.actions) _
          (ap (λ (t : Strips). atoms t) i.task)
          (turn _ _ _ (c.args.count - c.loop-done.done)
          (c.args.count - (c.loop-done.done + 1)) _ _ i.goes (omega arith))
          c.in_ok-one_action.ensures.reads;
      can = c.in_ok-one_action.ensures.reads.can;
      count = c.in_ok-one_action.ensures.count ∙ ap (λ n. n + 1) i.count;
      task = c.in_ok-one_action.ensures.task
          ∙ ap (λ (t : Strips). record t { actions = c.one_action.new.task.actions }) i.task;
      lists = c.in_ok-one_action.ensures.none;
    }

pub returns-in_err-one_action-clause-reads : goal.returns-in_err-one_action-clause-reads
returns-in_err-one_action-clause-reads g c =
    let i = c.loop-done.invariant in
    stops_as (λ n. one_more (action n) c.loop-done.task.actions) _
    (ap (λ (t : Strips). atoms t) i.task)
    (turn _ _ _ (c.args.count - c.loop-done.done)
    (c.args.count - (c.loop-done.done + 1)) _ _ i.goes (omega arith))
    c.in_err-one_action.ensures.reads (filled_err _ _ _ c.from_residual.ensures.1)

pub returns-clause-reads : goal.returns-clause-reads
returns-clause-reads g c =
    let i = c.loop-done.invariant in
    done _ _ _ _ _ (turned _ _ _ (c.args.count - c.loop-done.done) _ _ i.goes
    (omega arith)) i.can refl
