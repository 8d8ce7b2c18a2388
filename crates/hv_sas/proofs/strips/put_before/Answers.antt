use Rattle.std.proofs.Common.{◌∙◌, ap, take, sym, arith}
use Rattle.std.specs.List.{filter_map}
use Rattle.hv_sas.specs.Made.{fact_before}
use Rattle.hv_sas.proofs.Making.{puts_next, puts_same, take_all}
use Rattle.std.proofs.lemmas.List.{take_more}
use Rattle.std.proofs.lemmas.List.Elements.{filter_map-append}
use Rattle.hv_sas.proofs.strips.put_before.Goals as goal

pub loop-effect-preserved : goal.loop-effect-preserved
loop-effect-preserved c =
    let es = c.args.effects.now in
    let i = c.loop-effect.effect-index in
    puts_next c.args.variables.now _ _ _ _ _ _ c.loop-effect.invariant
    c.in_ok-put_one_before.ensures
    (ap (filter_map fact_before) (take_more es i _ c.loop-effect-test.true)
    ∙ filter_map-append fact_before (take i es) _)

pub returns : goal.returns
returns c =
    puts_same c.args.variables.now _ _ _ _ c.loop-effect.invariant
    (ap (filter_map fact_before)
    (sym (take_all c.args.effects.now c.loop-effect.effect-index (omega arith) (omega arith))))
