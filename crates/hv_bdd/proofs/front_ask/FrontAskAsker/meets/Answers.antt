use Rattle.std.proofs.Common.{◌∙◌, subst}
use Rattle.hv_bdd.specs.Fronts.{AreFronts}
use Rattle.hv_bdd.proofs.Jumped.{at_node_same}
use Rattle.hv_bdd.proofs.Along.{along_again}
use Rattle.hv_bdd.proofs.front_ask.FrontAskAsker.meets.Goals as goal

pub returns-clause-stands : goal.returns-clause-stands
returns-clause-stands g c =
    let q = c.args.self.now in
    let p = c.requires.stands.1 in
    let after = c.meets.new.self in
    let fronts = c.follow.new.self in (
      c.in_ok-yes.ensures.stands,
      along_again q.nodes.now q.inside q.node (g.A.Asker.atoms q.asked) (g.A.Asker.atoms after)
          (g.A.Asker.wanted q.asked) (g.A.Asker.wanted after) (g.A.Asker.assumed after)
          q.literals.items fronts.reached fronts.levels.items q.exclusions.words.items q.refuted
          p.over c.meets.ensures.atoms c.meets.ensures.wanted
          (c.in_ok-yes.ensures.assumed ∙ p.same) p.below
          (subst (λ ls. AreFronts q.nodes.now q.inside q.node ls fronts.reached
          fronts.levels.items) c.as_slice.ensures.value c.in_ok-follow.ensures.fronts)
          p.known p.none,
      at_node_same q.nodes.now q.inside (g.A.Asker.wanted q.asked) (g.A.Asker.wanted after) q.node
          q.jumps.to.items q.jumps.to.items c.meets.ensures.wanted (c.requires.stands.2)
          (c.requires.stands.2).known,
    )
