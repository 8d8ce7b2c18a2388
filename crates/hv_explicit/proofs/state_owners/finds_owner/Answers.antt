use Rattle.hv_explicit.proofs.Owned.{owned_from}
use Rattle.hv_explicit.proofs.state_owners.finds_owner.Goals as goal

pub returns-then-is_owner : goal.returns-then-is_owner
returns-then-is_owner g c = λ _ state size agree.
    owned_from c.args.atoms c.args.sets.now c.args.operands.now c.args.after c.requires.over
    c.requires.listed
    (g.A.Sought.has c.args.held.now) state size c.requires.below agree c.index.result.now
    (c.is_owner.ensures.0 c.if-is_owner.true)
