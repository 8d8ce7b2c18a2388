use Rattle.std.proofs.Common.{[], Option, subst}
use Rattle.std.specs.Prelude.{OnOk}
use Rattle.std.specs.List.{cons_option}
use Rattle.hv_sas.specs.declared.sas_task.Fact.{Fact}
use Rattle.hv_sas.specs.Working.Making.{AddsFacts}
use Rattle.hv_sas.proofs.strips.put_one_before.Goals as goal

pub returns-in-Some : goal.returns-in-Some
returns-in-Some c =
    subst (λ (o : Option Fact).
    OnOk c.put_fact.result
    (AddsFacts c.args.variables.now (cons_option o []) c.args.set.now c.put_fact.new.set))
    c.in-Some.ensures c.put_fact.ensures
