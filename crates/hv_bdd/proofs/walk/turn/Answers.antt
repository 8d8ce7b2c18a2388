use Rattle.std.proofs.Common.{◌∙◌, sym, take, arith}
use Rattle.std.proofs.lemmas.List.{length-take}
use Rattle.hv_bdd.proofs.Stacked.{none_left}
use Rattle.hv_bdd.proofs.walk.turn.Goals as goal

pub returns-clause-none : goal.returns-clause-none
returns-clause-none c = λ _.
    let count = c.loop-count.count in
    let items = c.loop-count.path.items in
    let size = length-take count items in
    let few = c.loop-count-test.false in
    sym c.loop-count.invariant.left
    ∙ none_left c.args.nodes.now c.args.end (take count items) (omega arith)
