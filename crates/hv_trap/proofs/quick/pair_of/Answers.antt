use Rattle.std.proofs.Common.{false, arith}
use Rattle.hv_sets.specs.declared.literal.Literal.{Literal}
use Rattle.hv_trap.proofs.Quickly.{pair_tells}
use Rattle.hv_trap.proofs.quick.pair_of.Goals as goal

pub returns : goal.returns
returns c = λ bound below.
    let none : Literal = record { atom = 0; positive = false } in
    pair_tells bound c.args.clause.now
    (record { first = c.truth_place_of-first.result; second = c.truth_place_of-second.result }) none none
    (let some = c.if-count-eq0.false in omega arith) c.if-count-gt2.false c.truth_place_of-first.ensures
    c.truth_place_of-second.ensures below
