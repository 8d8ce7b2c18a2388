use Rattle.std.proofs.Common.{arith}
use Rattle.std.proofs.lemmas.List.{take_rest}
use Rattle.hv_bdd.proofs.ShortFronts.{spelled_field}
use Rattle.hv_bdd.proofs.numbers.long_front.Goals as goal

pub returns-then-four-bound-clause-fields : goal.returns-then-four-bound-clause-fields
returns-then-four-bound-clause-fields c =
    let few = c.if-four-bound.true in
    let fits = c.requires.bound in
    let room = c.requires.room in
    rw take_rest
    (spelled_field c.args.line.now 4 c.four_digits-four.result (omega arith) (omega arith)
    (omega arith) (c.four_digits-four.ensures.spelled (omega arith)) c.if-line-eq32.true)

pub returns-then-five-bound-clause-fields : goal.returns-then-five-bound-clause-fields
returns-then-five-bound-clause-fields c =
    let few = c.if-five-bound.true in
    let fits = c.requires.bound in
    let room = c.requires.room in
    let five = c.with_digit-five.ensures.spelled (omega arith) in
    rw take_rest
    (spelled_field c.args.line.now 5 c.with_digit-five.result (omega arith) (omega arith)
    (omega arith) (five.1 (c.four_digits-four.ensures.spelled five.0)) c.if-line-eq32-2.true)
