use Rattle.hv_grammar.proofs.Repeated.{onward_same, repeat_count, till_same}
use Rattle.hv_grammar.proofs.laws.laws_of_repetition.Goals as goal

pub returns-clause-till : goal.returns-clause-till
returns-clause-till g c = till_same

pub returns-clause-onward : goal.returns-clause-onward
returns-clause-onward g c = onward_same

pub returns-clause-count : goal.returns-clause-count
returns-clause-count g c = repeat_count
