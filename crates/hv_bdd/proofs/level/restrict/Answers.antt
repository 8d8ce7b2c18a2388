use Rattle.std.proofs.Common.{◌∙◌, arith, length, get_or, refl}
use Rattle.hv_bdd.proofs.Advanced.{turned_more, turned_all}
use Rattle.hv_bdd.proofs.level.restrict.Goals as goal

pub loop-at-preserved : goal.loop-at-preserved
loop-at-preserved c =
    let i = c.loop-at.invariant in
    let in_front = c.requires.front c.loop-at.at c.loop-at-test.true in (
      c.put_live.ensures.places ∙ i.0,
      c.in_ok-put_live.ensures.below (length c.args.places.now.items)
          (omega (arith, in_front, c.turned-node.ensures.less)) i.1,
      turned_more c.args.side.now.nodes.now c.args.side.now.inside c.atoms-atoms.ensures.reduced
          c.args.literal c.args.front.now
          c.loop-at.list.items c.put_live.new.list.items c.loop-at.at
          (get_or c.args.front.now c.loop-at.at 0)
          c.turned-node.result refl c.turned-node.ensures.same c.in_ok-put_live.ensures.extends
          c.in_ok-put_live.ensures.put i.2,
    )

pub returns-clause-turns : goal.returns-clause-turns
returns-clause-turns c =
    turned_all c.args.side.now.nodes.now c.args.side.now.inside c.atoms-atoms.ensures.reduced
    c.args.literal c.args.front.now c.loop-at.list.items
    c.loop-at.at c.loop-at-test.false c.loop-at.invariant.2
