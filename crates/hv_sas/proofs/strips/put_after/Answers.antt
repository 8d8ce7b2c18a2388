use Rattle.std.proofs.Common.{◌∙◌, ap, map, take, sym, arith}
use Rattle.hv_sas.specs.Made.{fact_after}
use Rattle.hv_sas.proofs.Making.{puts_next, puts_same, take_all}
use Rattle.std.proofs.lemmas.List.{map-append, take_more}
use Rattle.hv_sas.proofs.strips.put_after.Goals as goal

pub loop-effect-preserved : goal.loop-effect-preserved
loop-effect-preserved c =
    let es = c.args.effects.now in
    let i = c.loop-effect.effect-index in
    puts_next c.args.variables.now _ _ _ _ _ _ c.loop-effect.invariant c.in_ok-put_fact.ensures
    (ap (map fact_after) (take_more es i _ c.loop-effect-test.true)
    ∙ map-append fact_after (take i es) _)

pub returns : goal.returns
returns c =
    puts_same c.args.variables.now _ _ _ _ c.loop-effect.invariant
    (ap (map fact_after)
    (sym (take_all c.args.effects.now c.loop-effect.effect-index (omega arith) (omega arith))))
