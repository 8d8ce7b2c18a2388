use Rattle.std.proofs.Common.{◌∙◌, [], List, map, subst, sym}
use Rattle.hv_sas.specs.declared.sas_task.Effect.{Effect}
use Rattle.hv_sas.specs.Made.{fact_after}
use Rattle.hv_sas.specs.Working.Making.{AddsFacts}
use Rattle.hv_sas.proofs.Making.{atoms_none, if_ok}
use Rattle.hv_sas.proofs.strips.add_of.Goals as goal

pub returns-clause-list : goal.returns-clause-list
returns-clause-list c =
    let vs = c.args.variables.now in
    let after = subst (λ (xs : List Effect). AddsFacts vs (map fact_after xs) c.args.set.now
    c.put_after.new.set) c.as_slice.ensures c.in_ok-put_after.ensures in
    if_ok _ _ c.take.result (λ list e. e ∙ after [] (c.requires.empty ∙ sym (atoms_none vs)))
    c.take.ensures.list
