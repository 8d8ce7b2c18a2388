use Rattle.std.proofs.Common.{◌∙◌, [], List, subst, sym}
use Rattle.hv_sas.specs.declared.sas_task.Fact.{Fact}
use Rattle.hv_sas.specs.declared.sas_task.Effect.{Effect}
use Rattle.std.specs.List.{filter_map}
use Rattle.hv_sas.specs.Made.{fact_before}
use Rattle.hv_sas.specs.Working.Making.{AddsFacts}
use Rattle.hv_sas.proofs.Making.{atoms_none, if_ok}
use Rattle.hv_sas.proofs.strips.pre_of.Goals as goal

pub returns-clause-list : goal.returns-clause-list
returns-clause-list c =
    let vs = c.args.variables.now in
    let prevail = subst (λ (xs : List Fact). AddsFacts vs xs c.args.set.now c.put_facts.new.set)
    c.as_slice.ensures c.in_ok-put_facts.ensures in
    let before = subst (λ (xs : List Effect).
    AddsFacts vs (filter_map fact_before xs) c.put_facts.new.set
    c.put_before.new.set) c.as_slice-2.ensures c.in_ok-put_before.ensures in
    if_ok _ _ c.take.result (λ list e. e ∙ before c.args.operator.now.prevail
    (prevail [] (c.requires.empty ∙ sym (atoms_none vs)))) c.take.ensures.list
