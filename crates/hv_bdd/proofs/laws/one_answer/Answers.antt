use Rattle.std.proofs.Common.{arith}
use Rattle.hv_bdd.proofs.OneAnswer.{one_fault, one_list, text_or_fault}
use Rattle.hv_bdd.proofs.laws.one_answer.Goals as goal

pub returns-clause-one_list : goal.returns-clause-one_list
returns-clause-one_list c =
    λ atoms pieces s t small p q. one_list atoms (omega arith) pieces s t p q

pub returns-clause-text_or_fault : goal.returns-clause-text_or_fault
returns-clause-text_or_fault c =
    λ atoms pieces list fault small p q. text_or_fault atoms (omega arith) pieces list fault p q

pub returns-clause-one_fault : goal.returns-clause-one_fault
returns-clause-one_fault c =
    λ atoms pieces f g small p q. one_fault atoms (omega arith) pieces f g p q
