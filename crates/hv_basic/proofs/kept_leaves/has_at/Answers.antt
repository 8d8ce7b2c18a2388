use Rattle.hv_basic.proofs.KeptLeaves.{leaf_at}
use Rattle.hv_basic.proofs.kept_leaves.has_at.Goals as goal

pub returns-then-leaves-place : goal.returns-then-leaves-place
returns-then-leaves-place c = λ _.
    leaf_at c.args.leaves.now c.args.place c.args.set _ c.if-place-leaves.false
    c.if-leaves-place.true
