use Rattle.std.proofs.Common.{arith}
use Rattle.hv_bdd.specs.Live.{moves}
use Rattle.hv_bdd.proofs.Steps.{least_below}
use Rattle.hv_bdd.proofs.tuple_search.Search.least.Goals as goal

pub loop-k-init : goal.loop-k-init
loop-k-init c =
    let upto = least_below (moves c.args.self.now.setting) c.args.self.now.asked
    c.args.tuple.now in
    let is = c.atoms-least.ensures.atoms in
    record { upto = omega arith; rest = omega arith }
