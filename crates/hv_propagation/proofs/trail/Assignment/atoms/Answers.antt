use Rattle.std.proofs.Common.{◌∙◌, length, sym, ap}
use Rattle.hv_propagation.specs.Trail.{Knowledge}
use Rattle.hv_propagation.proofs.Trailed.{length-marked}
use Rattle.hv_propagation.proofs.trail.Assignment.atoms.Goals as goal

pub returns-clause-atoms : goal.returns-clause-atoms
returns-clause-atoms c =
    let s = c.self.inside in
    sym (length-marked s.atoms s.roots) ∙ ap (λ (k : Knowledge). length k.roots) c.self.view_is
