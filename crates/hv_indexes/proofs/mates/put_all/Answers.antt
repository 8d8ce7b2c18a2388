use Rattle.std.proofs.Common.{arith, subst}
use Rattle.hv_indexes.specs.Working.Mates.{ArePut}
use Rattle.hv_indexes.proofs.mates.put_all.Goals as goal

pub returns-clause-put : goal.returns-clause-put
returns-clause-put c =
    subst (λ n. ArePut c.args.clauses.now n c.loop-place.put)
    (omega (arith, c.loop-place-test.false, c.loop-place.auto.place-end, c.len-place-end.ensures))
    c.loop-place.invariant
