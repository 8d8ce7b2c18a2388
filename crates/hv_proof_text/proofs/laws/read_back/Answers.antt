use Rattle.hv_proof_text.proofs.ReadBack as ReadBack
use Rattle.hv_proof_text.proofs.laws.read_back.Goals as goal

pub returns-clause-accepted : goal.returns-clause-accepted
returns-clause-accepted c = ReadBack.draft_accepted

pub returns-clause-judged : goal.returns-clause-judged
returns-clause-judged c = ReadBack.draft_judged

pub returns-clause-small : goal.returns-clause-small
returns-clause-small c = ReadBack.draft_small
