use Rattle.std.proofs.Common.{◌≡◌, ◌∙◌, ℕ, arith, below_more, rules, subst, true}
use Rattle.hv_replay.specs.Working.Leading.{StaysInFirst}
use Rattle.hv_replay.proofs.log_query.all_stay_by.Goals as goal

pub loop-action-preserved : goal.loop-action-preserved
loop-action-preserved c =
    let i = c.loop-action.invariant in
    let e = c.in_ok-stays.ensures in
    let yes : c.in_ok-stays.field-0 ≡ true = search rules in
    let P : ℕ → Type 0 = λ k. StaysInFirst c.args.task.now c.args.sets.now
    c.args.asking.now.number k in
    record {
      query = e.query;
      number = e.number ∙ i.number;
      stay = below_more P c.loop-action.action i.stay
          (subst (λ n. StaysInFirst c.args.task.now c.args.sets.now n c.loop-action.action)
          i.number (e.stays yes));
    }

pub returns : goal.returns
returns c = λ _ action less.
    c.loop-action.invariant.stay action
    (let many = c.actions-action-end.ensures in let past = c.loop-action-test.false in omega arith)
