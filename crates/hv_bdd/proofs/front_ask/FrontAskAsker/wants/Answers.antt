use Rattle.std.proofs.Common.{◌∙◌}
use Rattle.hv_bdd.proofs.Along.{along_again}
use Rattle.hv_bdd.proofs.Jumped.{at_node_same}
use Rattle.hv_bdd.proofs.front_ask.FrontAskAsker.wants.Goals as goal

pub returns-clause-stands : goal.returns-clause-stands
returns-clause-stands g c =
    let q = c.args.self.now in
    let p = c.requires.stands.1 in
    let after = c.wants.new.self in (
      c.in_ok-yes.ensures.stands,
      along_again q.nodes.now q.inside q.node (g.A.Asker.atoms q.asked) (g.A.Asker.atoms after)
          (g.A.Asker.wanted q.asked) (g.A.Asker.wanted after) (g.A.Asker.assumed after)
          q.literals.items q.fronts.reached q.fronts.levels.items q.exclusions.words.items q.refuted
          p.over c.wants.ensures.atoms c.wants.ensures.wanted
          (c.in_ok-yes.ensures.assumed ∙ p.same) p.below p.fronts p.known p.none,
      at_node_same q.nodes.now q.inside (g.A.Asker.wanted q.asked) (g.A.Asker.wanted after) q.node
          q.jumps.to.items c.has.new.self.to.items c.wants.ensures.wanted (c.requires.stands.2)
          c.in_ok-has.ensures.jumps,
    )
