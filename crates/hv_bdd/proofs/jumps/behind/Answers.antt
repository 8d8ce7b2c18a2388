use Rattle.std.proofs.Common.{arith, subst, sym}
use Rattle.hv_bdd.specs.Working.Jumping.{TurnsAt}
use Rattle.hv_bdd.proofs.Jumped.{turns_high, turns_past}
use Rattle.hv_bdd.proofs.jumps.behind.Goals as goal

pub returns-then-top-place : goal.returns-then-top-place
returns-then-top-place c =
    let list = c.args.nodes.now in
    let passes = c.first_from-first.ensures.passes in
    let few = c.requires.jumps.few in
    let less = c.requires.node in
    let upto = passes.upto in
    let at = c.top.ensures.top in
    let same = c.if-top-place.true in
    subst (λ n. TurnsAt list c.args.node n c.args.place) (sym c.child.ensures.child)
    (turns_high list c.top.ensures.reduced c.args.node c.first_from-first.result
    c.args.place (omega arith) c.requires.place passes (omega arith))

pub returns-else-top-place : goal.returns-else-top-place
returns-else-top-place c =
    let list = c.args.nodes.now in
    let at = c.top.ensures.top in
    let other = c.if-top-place.false in
    let there = c.first_from-first.ensures.there in
    turns_past list c.top.ensures.reduced c.args.node c.first_from-first.result
    c.args.place c.first_from-first.ensures.passes (omega arith)
