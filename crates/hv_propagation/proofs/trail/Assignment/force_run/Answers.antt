use Rattle.std.proofs.Common.{subst}
use Rattle.hv_propagation.specs.Chase.{IsFollowed}
use Rattle.hv_propagation.specs.Trail.{Knowledge, marked}
use Rattle.hv_propagation.specs.Working.Buffers.{queue_in}
use Rattle.hv_propagation.specs.Working.FoundRun.{AreTrueBehind, on_trail}
use Rattle.hv_propagation.proofs.trail.Assignment.force_run.Goals as goal

pub invariant_of-self : goal.invariant_of-self
invariant_of-self c = (c.self.invariant.0, c.force_each-end.ensures.joined)

pub returns-clause-followed : goal.returns-clause-followed
returns-clause-followed c =
    let s = c.self.inside in
    let end = c.force_each-end.result in
    subst (λ (k : Knowledge). IsFollowed (AreTrueBehind c.args.entries.now c.args.from) k
    (on_trail (marked s.atoms s.roots) (queue_in c.force_each-end.new.self) end.len) end.holds)
    c.self.view_is c.force_each-end.ensures.followed

pub returns-clause-known : goal.returns-clause-known
returns-clause-known c = c.force_each-end.ensures.known
