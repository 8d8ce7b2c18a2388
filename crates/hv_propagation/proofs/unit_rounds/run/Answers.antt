use Rattle.std.proofs.Common.{[], refl, subst, sym}
use Rattle.hv_propagation.specs.Trail.{marked}
use Rattle.hv_propagation.specs.Units.{AreSettled}
use Rattle.hv_propagation.proofs.Around.{two_settled}
use Rattle.hv_propagation.proofs.unit_rounds.run.Goals as goal

pub returns-then-tell_nothing-clause-tells : goal.returns-then-tell_nothing-clause-tells
returns-then-tell_nothing-clause-tells c =
    subst (λ ls. AreSettled [] c.args.clauses.now (marked c.args.atoms ls)) (sym c.requires.none)
    (two_settled c.args.atoms c.args.clauses.now (c.if-tell_nothing.ensures refl))
