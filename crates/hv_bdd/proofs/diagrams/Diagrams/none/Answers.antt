use Rattle.std.proofs.Common.{None, subst, sym}
use Rattle.hv_bdd.specs.Reduced.{IsReduced}
use Rattle.hv_bdd.proofs.Built.{none_reduced}
use Rattle.hv_bdd.proofs.diagrams.Diagrams.none.Goals as goal

pub invariant_of-result : goal.invariant_of-result
invariant_of-result c =
    subst (λ nodes. IsReduced (record { atoms = c.args.atoms; order = None; nodes = nodes }))
    (sym c.new.ensures.items) (none_reduced c.args.atoms)
