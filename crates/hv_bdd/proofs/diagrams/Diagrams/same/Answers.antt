use Rattle.hv_bdd.proofs.Canonical.{same_is}
use Rattle.hv_bdd.proofs.diagrams.Diagrams.same.Goals as goal

pub returns : goal.returns
returns c = same_is c.args.self.now c.atoms-atoms.ensures.reduced c.args.left c.args.right
    c.requires.left c.requires.right
