use Rattle.std.proofs.Common.{ℕ, length, ap, arith, subst}
use Rattle.hv_clauses.specs.Working.Owners.{ListsUpto}
use Rattle.hv_clauses.proofs.Owned.{codes_more}
use Rattle.hv_clauses.proofs.literal_owners.codes_of.Goals as goal

pub loop-place-preserved : goal.loop-place-preserved
loop-place-preserved g c =
    codes_more c.args.problem.now c.args.sign c.loop-place.place c.loop-place.codes.items
    c.put_operand.new.codes.items _ _ c.positive-positive.ensures.list
    (let t = c.loop-place-test.true in let e = c.loop-place.auto.place-end in omega arith)
    c.loop-place.invariant c.in_ok-put_operand.ensures

pub returns-clause-lists : goal.returns-clause-lists
returns-clause-lists g c =
    let t = c.loop-place-test.false in
    let e = c.loop-place.auto.place-end in
    let wide = ap length c.positive-positive.ensures.list in
    subst (λ (n : ℕ). ListsUpto c.args.problem.now c.args.sign n c.loop-place.codes.items)
    (omega arith) c.loop-place.invariant
