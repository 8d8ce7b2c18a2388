use Rattle.std.proofs.Common.{◌∙◌, [], List, subst, sym}
use Rattle.std.specs.List.{flat_map}
use Rattle.hv_sas.specs.declared.sas_task.Effect.{Effect}
use Rattle.hv_sas.specs.Made.{fact_before, facts_gone}
use Rattle.hv_sas.specs.Working.Making.{AddsFacts}
use Rattle.hv_sas.proofs.Making.{atoms_none, if_ok}
use Rattle.hv_sas.proofs.strips.del_of.Goals as goal

pub returns-clause-list : goal.returns-clause-list
returns-clause-list c =
    let vs = c.args.variables.now in
    let gone = subst (λ (xs : List Effect). AddsFacts vs
    (flat_map (λ (e : Effect). facts_gone vs e (fact_before e)) xs) c.args.set.now
    c.put_all_gone.new.set) c.as_slice.ensures c.in_ok-put_all_gone.ensures in
    if_ok _ _ c.take.result (λ list e. e ∙ gone [] (c.requires.empty ∙ sym (atoms_none vs)))
    c.take.ensures.list
