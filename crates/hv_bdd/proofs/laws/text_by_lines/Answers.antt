use Rattle.std.proofs.Common.{arith}
use Rattle.hv_bdd.proofs.Joined.{read_is_text, text_is_read}
use Rattle.hv_bdd.proofs.laws.text_by_lines.Goals as goal

pub returns-clause-text : goal.returns-clause-text
returns-clause-text c =
    λ atoms pieces list small text. text_is_read atoms pieces list (omega arith) text

pub returns-clause-value : goal.returns-clause-value
returns-clause-value c =
    λ atoms pieces list n rest e. read_is_text atoms pieces list n rest e
