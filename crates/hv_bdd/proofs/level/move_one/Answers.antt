use Rattle.std.proofs.Common.{◌≡◌, ◌∙◌, ◌<◌, ◌+◌, sym, subst, arith, length, get_or}
use Rattle.std.proofs.lemmas.List.{get_or_default}
use Rattle.hv_bdd.specs.Nodes.{node_count}
use Rattle.hv_bdd.specs.Working.Fronts.{IsAhead}
use Rattle.hv_bdd.proofs.Advanced.{ahead_kept, ahead_moved, goes_on, extends_more}
use Rattle.hv_bdd.proofs.level.move_one.Goals as goal

pub returns-then-node-lt2-clause-ahead : goal.returns-then-node-lt2-clause-ahead
returns-then-node-lt2-clause-ahead c =
    let list = c.args.side.now.nodes.now in
    let inside = c.args.side.now.inside in
    let queue = c.args.queue.now.items in
    let node = c.index-node.result.now in
    let same : get_or queue c.args.at 0 ≡ node =
    get_or_default queue c.args.at 0 node c.requires.at ∙ sym c.index-node.ensures in
    subst (λ xs. IsAhead list inside xs queue (c.args.at + 1)) (sym c.in_ok-push.ensures.items)
    (ahead_kept list inside c.args.out.now.items queue c.args.at node same c.requires.ahead)

pub returns-clause-ahead : goal.returns-clause-ahead
returns-clause-ahead c =
    let list = c.args.side.now.nodes.now in
    let inside = c.args.side.now.inside in
    let queue = c.args.queue.now.items in
    let node = c.index-node.result.now in
    let same : get_or queue c.args.at 0 ≡ node =
    get_or_default queue c.args.at 0 node c.requires.at ∙ sym c.index-node.ensures in
    let less = c.requires.queue c.args.at c.requires.at in
    let within : node < node_count list = omega (arith, same, less, c.requires.bound) in
    ahead_moved list inside c.args.out.now.items queue c.put_live-2.new.list.items c.args.at node
    c.requires.at same c.requires.ahead
    (extends_more queue c.put_live.new.list.items c.put_live-2.new.list.items
    c.in_ok-put_live.ensures.extends c.in_ok-put_live-2.ensures.extends)
    (goes_on list inside c.child.ensures.reduced node c.child.result
    c.child-2.result c.put_live.new.list.items c.put_live-2.new.list.items
    c.if-node-lt2.false within c.child.ensures.child c.child-2.ensures.child
    c.in_ok-put_live.ensures.put c.in_ok-put_live-2.ensures.extends
    c.in_ok-put_live-2.ensures.put)

pub returns-clause-queue : goal.returns-clause-queue
returns-clause-queue c =
    let node = c.index-node.result.now in
    let same : get_or c.args.queue.now.items c.args.at 0 ≡ node =
    get_or_default c.args.queue.now.items c.args.at 0 node c.requires.at
    ∙ sym c.index-node.ensures in
    let less = c.requires.queue c.args.at c.requires.at in
    c.in_ok-put_live-2.ensures.below (length c.args.places.now.items)
    (omega (arith, same, less, c.child-2.ensures.less))
    (c.in_ok-put_live.ensures.below (length c.args.places.now.items)
    (omega (arith, same, less, c.child.ensures.less)) c.requires.queue)
