use Rattle.std.proofs.Common.{◌∙◌, sym, ap}
use Rattle.std.proofs.lemmas.Bool.{eqb-true}
use Rattle.hv_propagation.specs.Marks.{known}
use Rattle.hv_propagation.specs.Trail.{marked}
use Rattle.hv_propagation.proofs.Untouched.{none_untouched}
use Rattle.hv_propagation.proofs.roots.Roots.read.Goals as goal

pub returns-then-is_empty : goal.returns-then-is_empty
returns-then-is_empty c =
    let s = c.self.inside in
    sym (none_untouched s.effect s.literals.now c.args.atoms c.args.atom
    (eqb-true _ 0 (sym c.is_empty.ensures ∙ c.if-is_empty.true)))
    ∙ ap (λ ls. known (marked c.args.atoms ls) c.args.atom) c.self.view_is
