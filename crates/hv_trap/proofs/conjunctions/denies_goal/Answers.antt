use Rattle.std.proofs.Common.{◌&&◌, ◌∙◌, ap, sym}
use Rattle.hv_task.specs.State.{names_atom}
use Rattle.hv_trap.proofs.Listed.{named_as}
use Rattle.hv_trap.proofs.conjunctions.denies_goal.Goals as goal

pub returns-then-not-literal : goal.returns-then-not-literal
returns-then-not-literal c =
    named_as c.args.goal.now c.args.literal.atom c.has.result c.has.ensures
    ∙ sym (ap (λ b. b && names_atom c.args.goal.now c.args.literal.atom) c.if-not-literal.true)
