use Rattle.hv_basic.proofs.JointClauses.{clauses_put}
use Rattle.hv_basic.proofs.joint.put_clauses.Goals as goal

pub loop-place-preserved : goal.loop-place-preserved
loop-place-preserved c =
    clauses_put c.args.into.now c.loop-place.into c.push_literals.new.self c.args.clauses.now
    c.loop-place.place c.get.result.now c.get.ensures c.loop-place.invariant
    c.in_ok-push_literals.ensures.ok
