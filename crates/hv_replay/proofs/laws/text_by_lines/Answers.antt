use Rattle.std.proofs.Common.{arith}
use Rattle.hv_replay.proofs.Joined.{read_is_text, text_is_read}
use Rattle.hv_replay.proofs.laws.text_by_lines.Goals as goal

pub returns-clause-text : goal.returns-clause-text
returns-clause-text c =
    λ atoms pieces log small text. text_is_read atoms pieces log (omega arith) text

pub returns-clause-value : goal.returns-clause-value
returns-clause-value c = λ atoms bytes log n rest e. read_is_text atoms bytes log n rest e
