use Rattle.std.proofs.Common.{◌∙◌, ap}
use Rattle.hv_propagation.specs.Roots.{untouched}
use Rattle.hv_propagation.proofs.Untouched.{untouched_nil}
use Rattle.hv_propagation.proofs.roots.Roots.of.Goals as goal

pub returns : goal.returns
returns c = ap (λ e. untouched e c.args.literals.now) c.none.ensures
    ∙ untouched_nil c.args.literals.now
