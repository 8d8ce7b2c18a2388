use Rattle.std.proofs.Common.{◌≡◌, ◌<◌, ◌∙◌, ◌++◌, ◌∷◌, [], sym, ap, subst}
use Rattle.hv_bdd.specs.declared.node.Node.{Node}
use Rattle.hv_bdd.specs.Paths.{left_of, paths}
use Rattle.hv_bdd.specs.Reduced.{node_at}
use Rattle.hv_bdd.proofs.Stacked.{go_high, go_low, no_paths}
use Rattle.hv_bdd.proofs.walk.first_child.Goals as goal

pub returns-then-listed-end-clause-left : goal.returns-then-listed-end-clause-left
returns-then-listed-end-clause-left c = λ front.
    let list = c.args.nodes.now in
    let e = c.args.end in
    let n = c.args.node in
    subst (λ (m : Node). left_of list e (front ++ n ∷ []) (paths list e n)
    ≡ left_of list e (front ++ n ∷ m.high ∷ []) (paths list e m.high))
    (sym c.node-listed.ensures.node)
    (go_high list e c.node-listed.ensures.reduced front n c.requires.inner c.requires.node
    (no_paths list e (node_at list n).low c.requires.end
    (sym (ap (λ (m : Node). m.low) c.node-listed.ensures.node) ∙ c.if-listed-end.true)))

pub returns-else-listed-end-clause-left : goal.returns-else-listed-end-clause-left
returns-else-listed-end-clause-left c = λ front.
    let list = c.args.nodes.now in
    let e = c.args.end in
    let n = c.args.node in
    subst (λ (m : Node). left_of list e (front ++ n ∷ []) (paths list e n)
    ≡ left_of list e (front ++ n ∷ m.low ∷ []) (paths list e m.low))
    (sym c.node-listed.ensures.node)
    (go_low list e c.node-listed.ensures.reduced front n c.requires.inner c.requires.node)

pub returns-then-listed-end-clause-less : goal.returns-then-listed-end-clause-less
returns-then-listed-end-clause-less c =
    subst (λ (m : Node). m.high < c.args.node) (sym c.node-listed.ensures.node)
    (c.node-listed.ensures.reduced.high c.args.node c.requires.inner c.requires.node)
