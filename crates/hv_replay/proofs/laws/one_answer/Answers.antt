use Rattle.std.proofs.Common.{arith}
use Rattle.hv_replay.proofs.OneAnswer.{answered, one_fault, one_log, text_or_fault}
use Rattle.hv_replay.proofs.laws.one_answer.Goals as goal

pub returns-clause-one_log : goal.returns-clause-one_log
returns-clause-one_log c = λ atoms pieces s t small p q. one_log atoms (omega arith) pieces s t p q

pub returns-clause-text_or_fault : goal.returns-clause-text_or_fault
returns-clause-text_or_fault c = λ atoms pieces log fault small p q. text_or_fault atoms
    (omega arith) pieces log fault p q

pub returns-clause-one_fault : goal.returns-clause-one_fault
returns-clause-one_fault c = λ atoms pieces f g small p q. one_fault atoms (omega arith) pieces f g
    p q

pub returns-clause-answered : goal.returns-clause-answered
returns-clause-answered c = λ atoms bytes. answered atoms bytes
