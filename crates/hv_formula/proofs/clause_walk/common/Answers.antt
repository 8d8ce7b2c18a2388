use Rattle.std.proofs.Common.{◌∙◌, false, arith, get_or}
use Rattle.hv_sets.specs.declared.literal.Literal.{Literal}
use Rattle.hv_formula.proofs.Walked.{front_more, literal_same}
use Rattle.hv_formula.proofs.clause_walk.common.Goals as goal

pub loop-place-preserved : goal.loop-place-preserved
loop-place-preserved c =
    let d : Literal = record { atom = 0; positive = false } in
    let place = c.loop-place.place in
    let own = get_or c.args.literals.now place d in
    front_more c.args.literals.now c.args.clause.now c.args.codes.now place d
    (omega (arith, c.min-most.ensures, c.loop-place-test.true))
    (omega (arith, c.min-most.ensures, c.loop-place-test.true)) c.loop-place.invariant
    (literal_same own c.denial_at.result c.if-ne.ensures ∙ c.denial_at.ensures)
