use Rattle.std.proofs.Common.{sym, arith}
use Rattle.hv_sas.proofs.Making.{puts_next, puts_same, take_all}
use Rattle.std.proofs.lemmas.List.{take_more}
use Rattle.hv_sas.proofs.strips.put_facts.Goals as goal

pub loop-fact-preserved : goal.loop-fact-preserved
loop-fact-preserved c =
    puts_next c.args.variables.now _ _ _ _ _ _ c.loop-fact.invariant c.in_ok-put_fact.ensures
    (take_more c.args.facts.now c.loop-fact.fact-index _ c.loop-fact-test.true)

pub returns : goal.returns
returns c =
    puts_same c.args.variables.now _ _ _ _ c.loop-fact.invariant
    (sym (take_all c.args.facts.now c.loop-fact.fact-index (omega arith) (omega arith)))
