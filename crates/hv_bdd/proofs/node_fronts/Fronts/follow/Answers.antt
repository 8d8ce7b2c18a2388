use Rattle.std.proofs.Common.{◌∙◌, false, get_or, refl, subst, sym}
use Rattle.std.proofs.lemmas.List.{get_or_default}
use Rattle.hv_sets.specs.declared.literal.Literal.{Literal}
use Rattle.hv_bdd.specs.Working.Fronts.{GoesDeeper}
use Rattle.hv_bdd.proofs.Along.{fronts_more}
use Rattle.hv_bdd.proofs.node_fronts.Fronts.follow.Goals as goal

pub loop-place-preserved : goal.loop-place-preserved
loop-place-preserved c =
    let list = c.args.side.now.nodes.now in
    let inside = c.args.side.now.inside in
    let levels = c.loop-place.self.levels.items in
    let new = c.deepen.new.levels.items in
    let literals = c.args.literals.now in
    let place = c.loop-place.place in
    let none : Literal = record { atom = 0; positive = false } in
    let literal = get_or literals place none in (
      refl,
      fronts_more list inside c.args.node literals literal place levels new c.loop-place-test.true
          (get_or_default literals place literal none c.loop-place-test.true)
          c.loop-place.invariant.1
          (subst (λ n. GoesDeeper list inside n literal place levels new)
          (sym c.resize.new.self.ok.0 ∙ c.in_ok-resize.ensures.len)
          c.in_ok-deepen.ensures.deeper),
    )
