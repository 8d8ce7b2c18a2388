use Rattle.hv_sas.proofs.Making.{on_ok, puts_one}
use Rattle.hv_sas.proofs.strips.put_fact.Goals as goal

pub returns : goal.returns
returns c =
    on_ok _ _ c.insert.result
    (puts_one c.args.variables.now c.args.fact c.fact_atom.result c.args.set.now c.insert.new.self
    c.requires.fact c.fact_atom.ensures.atom) c.insert.ensures.ok
