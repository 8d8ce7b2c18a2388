use Rattle.std.proofs.lemmas.Bool.{both_ways, not-true}
use Rattle.hv_task.proofs.Next.{unnamed}
use Rattle.hv_reach.proofs.pair_visit.leaves_alone.Goals as goal

pub returns-clause-yes : goal.returns-clause-yes
returns-clause-yes c = λ e. (
  unnamed c.args.action.now.add c.args.atom
      (λ named. both_ways c.has.result c.if-has.false (c.has.ensures.1 named)),
  unnamed c.args.action.now.del c.args.atom
      (λ named. both_ways c.has-2.result (not-true c.has-2.result e) (c.has-2.ensures.1 named)),
)
