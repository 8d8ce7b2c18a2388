use Rattle.std.proofs.Common.{ℕ, ◌≤◌, arith, below_more}
use Rattle.hv_propagation.specs.Trail.{marks_of}
use Rattle.hv_propagation.specs.Working.Chase.{IsSettledAt}
use Rattle.hv_propagation.proofs.chase.place_of_other.Goals as goal

pub loop-index-preserved : goal.loop-index-preserved
loop-index-preserved c =
    let Holds : ℕ → Type 0 = λ k. IsSettledAt c.args.effect.now (marks_of c.args.marks.now)
    c.args.standing.now k in
    let here = c.is_true_beside.ensures c.if-not-is_true_beside.false in
    let more = c.loop-index.invariant.after in
    record {
      after = omega arith;
      settled = λ k past less. below_more (λ j. c.args.from ≤ j → Holds j) c.loop-index.index
          (λ j before behind. c.loop-index.invariant.settled j behind before)
          (λ behind. here) k less past;
    }
