use Rattle.std.proofs.Common.{Option, subst}
use Rattle.std.specs.Prelude.{OnOk}
use Rattle.hv_sas.specs.declared.sas_task.Fact.{Fact}
use Rattle.hv_sas.specs.Made.{facts_gone}
use Rattle.hv_sas.specs.Working.Making.{AddsFacts}
use Rattle.hv_sas.proofs.strips.put_gone.Goals as goal

pub returns-in-None : goal.returns-in-None
returns-in-None c =
    subst (λ (o : Option Fact). OnOk c.put_others.result
    (AddsFacts c.args.variables.now (facts_gone c.args.variables.now c.args.effect o) c.args.set.now
    c.put_others.new.set))
    c.in-None.ensures c.put_others.ensures

pub returns-in-Some : goal.returns-in-Some
returns-in-Some c =
    subst (λ (o : Option Fact). OnOk c.put_fact.result
    (AddsFacts c.args.variables.now (facts_gone c.args.variables.now c.args.effect o) c.args.set.now
    c.put_fact.new.set))
    c.in-Some.ensures c.put_fact.ensures
