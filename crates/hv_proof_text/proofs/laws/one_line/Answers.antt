use Rattle.hv_proof_text.proofs.LineFields as LineFields
use Rattle.hv_proof_text.proofs.laws.one_line.Goals as goal

pub returns-clause-once : goal.returns-clause-once
returns-clause-once c = LineFields.one_line

pub returns-clause-apart : goal.returns-clause-apart
returns-clause-apart c = LineFields.skipped_apart
