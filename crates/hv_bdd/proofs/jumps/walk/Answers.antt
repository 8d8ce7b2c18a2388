use Rattle.std.proofs.Common.{◌<◌, ◌∙◌, ap, sym, arith, length, subst}
use Rattle.hv_task.specs.State.{has_atom}
use Rattle.hv_bdd.specs.declared.node.Node.{Node}
use Rattle.hv_bdd.specs.Nodes.{in_node}
use Rattle.hv_bdd.specs.Reduced.{child}
use Rattle.hv_bdd.specs.Working.Walking.{in_end, in_inner}
use Rattle.hv_bdd.proofs.jumps.walk.Goals as goal

pub has-requires : goal.has-requires
has-requires c =
    let size = c.requires.state in
    let less = c.atoms-atoms.ensures.reduced.atom c.loop-at.at c.loop-at-test.true
    c.loop-at.invariant.within in
    subst (λ (n : Node). n.atom < length c.args.state.now) (sym c.node.ensures.node) (omega arith)

pub loop-at-preserved : goal.loop-at-preserved
loop-at-preserved c = record {
  within = let less = c.child-at.ensures.less in let old = c.loop-at.invariant.within in
      omega arith;
  same =
      let bit = c.has.ensures ∙ ap (λ (n : Node). has_atom c.args.state.now n.atom)
      c.node.ensures.node in
      ap (λ n. in_node c.args.nodes.now n c.args.state.now)
      (c.child-at.ensures.child ∙ ap (child c.args.nodes.now c.loop-at.at) bit)
      ∙ (sym (in_inner c.args.nodes.now c.atoms-atoms.ensures.reduced c.args.state.now c.loop-at.at
      c.loop-at-test.true c.loop-at.invariant.within)
      ∙ c.loop-at.invariant.same);
}

pub returns : goal.returns
returns c =
    sym (in_end c.args.nodes.now c.atoms-atoms.ensures.reduced c.args.state.now c.loop-at.at
    c.loop-at-test.false)
    ∙ c.loop-at.invariant.same
