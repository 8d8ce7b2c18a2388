use Rattle.std.proofs.Common.{◌∙◌, sym, ap}
use Rattle.hv_propagation.specs.Marks.{known}
use Rattle.hv_propagation.specs.Trail.{marked}
use Rattle.hv_propagation.proofs.Untouched.{said_beside, unsaid}
use Rattle.hv_propagation.proofs.roots.Roots.read_some.Goals as goal

pub returns-in-None : goal.returns-in-None
returns-in-None c =
    let s = c.self.inside in
    c.said.ensures
    ∙ (sym (said_beside s.effect c.args.atoms s.literals.now c.args.atom
    (sym c.read.ensures ∙ c.in-None.is))
    ∙ ap (λ ls. known (marked c.args.atoms ls) c.args.atom) c.self.view_is)

pub returns-in-Some : goal.returns-in-Some
returns-in-Some c =
    let s = c.self.inside in
    sym (unsaid s.effect c.args.atoms s.literals.now c.args.atom c.in-Some.field-0
    (sym c.read.ensures ∙ c.in-Some.is))
    ∙ ap (λ ls. known (marked c.args.atoms ls) c.args.atom) c.self.view_is
