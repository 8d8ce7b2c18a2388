use Rattle.std.proofs.Common.{◌≡◌, ◌∙◌, ◌++◌, ◌∷◌, [], sym, ap, subst}
use Rattle.std.proofs.lemmas.Bool.{eq-eqb, ne_eqb}
use Rattle.hv_bdd.specs.declared.node.Node.{Node}
use Rattle.hv_bdd.specs.Paths.{left_of, paths}
use Rattle.hv_bdd.specs.Reduced.{node_at}
use Rattle.hv_bdd.proofs.Stacked.{go_up, go_up_low, no_paths, turn}
use Rattle.hv_bdd.proofs.walk.sibling.Goals as goal

pub returns-then-child-high-clause-none : goal.returns-then-child-high-clause-none
returns-then-child-high-clause-none c = λ front.
    let list = c.args.nodes.now in
    let is = ap (λ (m : Node). m.high) c.node-high.ensures.node in
    sym (go_up list c.args.end front c.args.node c.args.child
    (eq-eqb c.args.child (node_at list c.args.node).high (c.if-child-high.true ∙ is)))

pub returns-then-high-end-clause-none : goal.returns-then-high-end-clause-none
returns-then-high-end-clause-none c = λ front.
    let list = c.args.nodes.now in
    let is = ap (λ (m : Node). m.high) c.node-high.ensures.node in
    sym (go_up_low list c.args.end front c.args.node c.args.child
    (ne_eqb c.args.child (node_at list c.args.node).high (λ e. c.if-child-high.false (e ∙ sym is)))
    (no_paths list c.args.end (node_at list c.args.node).high c.requires.end
    (sym is ∙ c.if-high-end.true)))

pub returns-clause-some : goal.returns-clause-some
returns-clause-some c = λ front.
    let list = c.args.nodes.now in
    let e = c.args.end in
    let n = c.args.node in
    let m = c.args.child in
    let is = ap (λ (m : Node). m.high) c.node-high.ensures.node in
    subst (λ h.
    left_of list e (front ++ n ∷ h ∷ []) (paths list e h)
    ≡ left_of list e (front ++ n ∷ m ∷ []) [])
    (sym is)
    (sym (turn list e front n m
    (ne_eqb m (node_at list n).high (λ same. c.if-child-high.false (same ∙ sym is)))))
