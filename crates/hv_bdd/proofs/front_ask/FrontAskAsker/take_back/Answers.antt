use Rattle.std.proofs.Common.{◌≡◌, ◌∙◌, ◌<◌, false, length, true, take, ap, sym, subst, arith}
use Rattle.std.proofs.lemmas.List.{length-take, take-take}
use Rattle.std.proofs.lemmas.List.Elements.{All-take}
use Rattle.hv_sets.specs.Cubes.{SpeakBelow}
use Rattle.hv_sets.specs.declared.literal.Literal.{Literal}
use Rattle.hv_bdd.proofs.Jumped.{at_node_same}
use Rattle.hv_bdd.proofs.Along.{along_again, fronts_kept}
use Rattle.hv_bdd.proofs.front_ask.FrontAskAsker.take_back.Goals as goal

pub returns-clause-stands : goal.returns-clause-stands
returns-clause-stands g c =
    let q = c.args.self.now in
    let p = c.requires.stands.1 in
    let list = q.nodes.now in
    let after = c.take_back.new.self in
    let old = q.literals.items in
    let new = c.truncate.new.self.items in
    let d = c.args.depth in
    let r = c.min-self.result in
    let is : new ≡ take d old = c.truncate.ensures.items in
    let size = ap length is ∙ length-take d old in
    let least = c.min-self.ensures in
    let few = p.fronts.few in (
      c.take_back.ensures.stands,
      along_again list q.inside q.node (g.A.Asker.atoms q.asked) (g.A.Asker.atoms after)
          (g.A.Asker.wanted q.asked) (g.A.Asker.wanted after) (g.A.Asker.assumed after) new r
          q.fronts.levels.items q.exclusions.words.items false p.over c.take_back.ensures.atoms
          c.take_back.ensures.wanted
          (c.take_back.ensures.assumed ∙ (ap (take d) p.same ∙ sym is))
          (subst (SpeakBelow list.atoms) (sym is)
          (All-take (λ (m : Literal). m.atom < list.atoms) d old p.below))
          (fronts_kept list q.inside q.node old new q.fronts.reached r q.fronts.levels.items
          (omega (arith, least)) (omega (arith, least, size, few))
          (λ i upto. sym (take-take i d old (omega (arith, upto, least))) ∙ ap (take i) (sym is))
          p.fronts)
          p.known (λ e. let f : false ≡ true = e in absurd cc),
      at_node_same list q.inside (g.A.Asker.wanted q.asked) (g.A.Asker.wanted after) q.node
          q.jumps.to.items q.jumps.to.items c.take_back.ensures.wanted (c.requires.stands.2)
          (c.requires.stands.2).known,
    )
