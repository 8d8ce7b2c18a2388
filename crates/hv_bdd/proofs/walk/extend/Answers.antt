use Rattle.std.proofs.Common.{◌≡◌, ◌<◌, ◌∙◌, ◌++◌, ◌∷◌, [], ◌+◌, eqb, false, get_or, sym, ap, subst}
use Rattle.std.proofs.Common.{take, arith}
use Rattle.std.proofs.lemmas.List.{take_all, take_more}
use Rattle.std.proofs.lemmas.List.Elements.{All-push}
use Rattle.hv_sets.specs.Cubes.{SpeakBelow}
use Rattle.hv_sets.specs.declared.literal.Literal.{Literal}
use Rattle.hv_bdd.specs.declared.node.Node.{Node}
use Rattle.hv_bdd.specs.Working.Paths.{literals_of}
use Rattle.hv_bdd.proofs.Fronted.{length_literals, literal_at}
use Rattle.hv_bdd.proofs.walk.extend.Goals as goal

pub loop-at-preserved : goal.loop-at-preserved
loop-at-preserved c =
    let list = c.args.nodes.now in
    let path = c.args.path.now in
    let at = c.loop-at.at in
    let less = c.loop-at-test.true in
    let size = length_literals list path in
    let items = c.in_ok-push.ensures.items in
    let none : Literal = record { atom = 0; positive = false } in
    let n = get_or path at 0 in
    let m = get_or path (at + 1) 0 in
    let made : Literal = record {
      atom = c.node-node.result.atom;
      positive = eqb m c.node-node.result.high;
    } in
    let is : made ≡ get_or (literals_of list path) at none =
    ap (λ (x : Node). let l : Literal = record { atom = x.atom; positive = eqb m x.high } in l)
    c.node-node.ensures.node
    ∙ sym (literal_at list path at none (omega arith)) in record {
      front = items
          ∙ (ap (λ ls. ls ++ made ∷ []) c.loop-at.invariant.front
          ∙ (ap (λ l. take at (literals_of list path) ++ l ∷ []) is
          ∙ sym (take_more (literals_of list path) at none (omega arith))));
      below = subst (SpeakBelow list.atoms) (sym items)
          (All-push (λ (l : Literal). l.atom < list.atoms) c.loop-at.literals.items made
          c.loop-at.invariant.below
          (subst (λ (x : Node). x.atom < list.atoms) (sym c.node-node.ensures.node)
          (c.node-node.ensures.reduced.atom n (c.requires.stack.inner at (omega arith))
          (c.requires.stack.node at (omega arith)))));
    }

pub returns-clause-literals : goal.returns-clause-literals
returns-clause-literals c =
    let list = c.args.nodes.now in
    let path = c.args.path.now in
    let size = length_literals list path in
    let over = c.loop-at-test.false in
    c.loop-at.invariant.front
    ∙ take_all c.loop-at.at (literals_of list path) (omega arith)
