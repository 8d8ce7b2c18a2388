use Rattle.std.proofs.Common.{◌∙◌, arith, sym}
use Rattle.std.proofs.lemmas.List.{same_lists}
use Rattle.hv_bdd.proofs.Alike.{same_more}
use Rattle.hv_bdd.proofs.untouched.Untouched.is_for.Goals as goal

pub loop-k-preserved : goal.loop-k-preserved
loop-k-preserved c =
    same_more c.as_slice-own.result.now c.args.asked.now c.loop-k.k _ _ (omega arith) (omega arith)
    (c.is_one.ensures.which c.if-not-is_one.false) (c.is_one.ensures.after c.if-not-is_one.false)
    (c.is_one.ensures.positive c.if-not-is_one.false) c.loop-k.invariant

pub returns : goal.returns
returns c = λ _.
    sym c.as_slice-own.ensures.value
    ∙ same_lists c.as_slice-own.result.now c.args.asked.now (omega arith)
    (λ p d less. c.loop-k.invariant p d d (omega arith))
