use Rattle.std.proofs.Common.{◌≤◌, ◌∙◌, sym, ap, subst}
use Rattle.hv_bdd.specs.Paths.{IsStack, last_of, left_of, paths}
use Rattle.hv_bdd.proofs.Fronted.{front_push}
use Rattle.hv_bdd.proofs.Stacked.{down, last_push, stack_push}
use Rattle.hv_bdd.proofs.walk.descend.Goals as goal

pub loop-last-preserved : goal.loop-last-preserved
loop-last-preserved c =
    let list = c.args.nodes.now in
    let e = c.args.end in
    let stack = c.loop-last.path.items in
    let node = c.loop-last.last in
    let child = c.first_child-last.result in
    let items = c.in_ok-push.ensures.items in
    let is = c.loop-last.invariant in record {
      stack = subst (IsStack list) (sym items)
          (stack_push list stack child is.stack
          (subst (λ n. 2 ≤ n) (sym is.last) c.loop-last-test.true)
          c.first_child-last.ensures.node);
      last = ap (λ s. last_of s) items ∙ last_push stack child;
      front = front_push c.args.path.now.items stack c.push.new.self.items child is.front items;
      other = c.first_child-last.ensures.other;
      left = ap (λ s. left_of list e s (paths list e child)) items
          ∙ (down list e stack node child is.stack.some is.last c.first_child-last.ensures.left
          ∙ is.left);
    }
