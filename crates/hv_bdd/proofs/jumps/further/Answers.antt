use Rattle.std.proofs.Common.{◌<◌, arith, subst, sym}
use Rattle.hv_bdd.specs.Jumps.{PassesAlong}
use Rattle.hv_bdd.specs.Nodes.{node_count}
use Rattle.hv_bdd.proofs.Jumped.{inner_before, jump_is, passes_low}
use Rattle.hv_bdd.proofs.jumps.further.Goals as goal

pub returns-then-top-place-clause-passes : goal.returns-then-top-place-clause-passes
returns-then-top-place-clause-passes c =
    let list = c.args.nodes.now in
    let at = c.top.ensures.top in
    let upto = c.if-top-place.true in
    jump_is list c.args.node _ c.args.place (c.requires.jumps.each c.args.node c.requires.node)
    (omega arith)

pub returns-else-top-place-clause-passes : goal.returns-else-top-place-clause-passes
returns-else-top-place-clause-passes c =
    let list = c.args.nodes.now in
    let reduced = c.top.ensures.reduced in
    let few = c.requires.jumps.few in
    let within : c.args.node < node_count list = let less = c.requires.node in omega arith in
    subst (λ n. PassesAlong list c.args.node n c.args.place) (sym c.child.ensures.child)
    (passes_low list reduced c.args.node c.args.place
    (inner_before list reduced c.args.node c.args.place c.requires.before c.requires.place) within
    c.requires.before)
