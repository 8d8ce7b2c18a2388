use Rattle.std.proofs.Common.{◌+◌, ◌∙◌, Some, get_or, take, arith, ap, refl, sym}
use Rattle.std.proofs.lemmas.List.{take_all}
use Rattle.hv_bound.specs.PlanAnswers.{IsPlanAnswer}
use Rattle.hv_bound.specs.Costs.{cost_of_list}
use Rattle.hv_bound.specs.declared.plan_check.PlanAnswer.TheVariants.{Cost, NoGoal, NotApplicable}
use Rattle.hv_bound.specs.declared.plan_check.PlanAnswer.TheVariants.{Unknown}
use Rattle.hv_bound.proofs.Steps.{not_applicable_at, one_answer, run_all, taken, unknown_at}
use Rattle.hv_bound.proofs.plan_check.check_plan.Goals as goal

pub returns-then-number-actions : goal.returns-then-number-actions
returns-then-number-actions c =
    let answer = unknown_at c.args.task.now c.args.list.now c.loop-place.place
    (get_or c.args.list.now c.loop-place.place 0) c.loop-place.state (omega arith) refl
    c.loop-place.invariant.run (omega (arith, c.actions.ensures.actions)) in
    record {
      answer = answer;
      only = λ other h. one_answer c.args.task.now c.args.list.now other
          (Unknown (c.loop-place.place + 1)) h answer;
    }

pub loop-place-init : goal.loop-place-init
loop-place-init c = record {
  run = ap (λ s. Some s) (sym c.in_ok-state.ensures.start);
  cost = refl;
  small = omega arith;
  state = c.in_ok-state.ensures.state;
  kept = c.new-long.ensures c.args.task.now;
}

pub returns-then-not-taken : goal.returns-then-not-taken
returns-then-not-taken c =
    let answer = not_applicable_at c.args.task.now c.args.list.now c.loop-place.place
    (get_or c.args.list.now c.loop-place.place 0) c.loop-place.state (omega arith) refl
    c.loop-place.invariant.run c.in_ok-taken.taken (omega (arith, c.actions.ensures.actions))
    (λ a named. (c.in_ok-taken.ensures.step a named).applies) c.if-not-taken.true in
    record {
      answer = answer;
      only = λ other h. one_answer c.args.task.now c.args.list.now other
          (NotApplicable (c.loop-place.place + 1)) h answer;
    }

pub loop-place-preserved : goal.loop-place-preserved
loop-place-preserved c =
    let i = c.loop-place.invariant in
    let small = i.small in
    let step = c.in_ok-taken.ensures.step c.action.result.now c.action.ensures.named in
    let r = taken c.args.task.now c.args.list.now c.loop-place.place
    (get_or c.args.list.now c.loop-place.place 0) c.loop-place.state (omega arith) refl i.run
    c.action.result.now c.action.ensures.named (sym step.applies ∙ c.if-not-taken.false) in
    record {
      run = r.0 ∙ ap (λ s. Some s) (sym (step.moves c.if-not-taken.false));
      cost = ap (λ n. n + c.from-cost.result) i.cost
          ∙ ap (λ n. cost_of_list c.args.task.now (take c.loop-place.place c.args.list.now) + n)
          c.from-cost.ensures ∙ sym r.1;
      small = omega arith;
      state = c.in_ok-taken.ensures.state;
      kept = c.in_ok-taken.ensures.kept;
    }

pub returns-then-goal_in : goal.returns-then-goal_in
returns-then-goal_in c =
    let i = c.loop-place.invariant in
    let answer : IsPlanAnswer c.args.task.now c.args.list.now (Cost c.loop-place.cost) = (
      (
        c.loop-place.state,
        run_all c.args.task.now c.args.list.now c.loop-place.place
            c.loop-place.state (omega arith) i.run,
        sym c.goal_in.ensures ∙ c.if-goal_in.true,
      ),
      i.cost ∙ ap (cost_of_list c.args.task.now)
          (take_all c.loop-place.place c.args.list.now (omega arith)),
    ) in
    record {
      answer = answer;
      only = λ other h. one_answer c.args.task.now c.args.list.now other (Cost c.loop-place.cost) h
          answer;
    }

pub returns : goal.returns
returns c =
    let answer : IsPlanAnswer c.args.task.now c.args.list.now NoGoal = (
      c.loop-place.state,
      run_all c.args.task.now c.args.list.now c.loop-place.place
          c.loop-place.state (omega arith) c.loop-place.invariant.run,
      sym c.goal_in.ensures ∙ c.if-goal_in.false,
    ) in
    record {
      answer = answer;
      only = λ other h. one_answer c.args.task.now c.args.list.now other NoGoal h answer;
    }
