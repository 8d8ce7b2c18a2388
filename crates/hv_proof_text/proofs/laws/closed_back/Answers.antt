use Rattle.hv_proof_text.proofs.ClosedBack as ClosedBack
use Rattle.hv_proof_text.proofs.laws.closed_back.Goals as goal

pub returns-clause-accepted : goal.returns-clause-accepted
returns-clause-accepted c = ClosedBack.closed_accepted

pub returns-clause-judged : goal.returns-clause-judged
returns-clause-judged c = ClosedBack.closed_judged
