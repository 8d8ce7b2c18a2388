use Rattle.std.proofs.Common.{◌∙◌, ◌++◌, ap, take, sym, arith, List}
use Rattle.std.specs.List.{flat_map}
use Rattle.hv_sas.specs.declared.sas_task.Effect.{Effect}
use Rattle.hv_sas.specs.declared.sas_task.Fact.{Fact}
use Rattle.hv_sas.specs.Made.{fact_before, facts_gone}
use Rattle.hv_sas.proofs.Making.{puts_next, puts_same, take_all}
use Rattle.std.proofs.lemmas.List.{append-nil, take_more}
use Rattle.std.proofs.lemmas.Grind.{flat_map-append}
use Rattle.hv_sas.proofs.strips.put_all_gone.Goals as goal

pub loop-effect-preserved : goal.loop-effect-preserved
loop-effect-preserved c =
    let es = c.args.effects.now in
    let i = c.loop-effect.effect-index in
    let gone : Effect → List Fact = λ e. facts_gone c.args.variables.now e (fact_before e) in
    puts_next c.args.variables.now _ _ _ _ _ _ c.loop-effect.invariant c.in_ok-put_gone.ensures
    (ap (flat_map gone) (take_more es i _ c.loop-effect-test.true)
    ∙ flat_map-append gone (take i es) _
    ∙ ap (λ fs. flat_map gone (take i es) ++ fs) (append-nil _))

pub returns : goal.returns
returns c =
    let gone : Effect → List Fact = λ e. facts_gone c.args.variables.now e (fact_before e) in
    puts_same c.args.variables.now _ _ _ _ c.loop-effect.invariant
    (ap (flat_map gone)
    (sym (take_all c.args.effects.now c.loop-effect.effect-index (omega arith) (omega arith))))
