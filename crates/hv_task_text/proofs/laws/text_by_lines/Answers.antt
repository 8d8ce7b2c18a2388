use Rattle.hv_task_text.proofs.Joined.{read_is_text, text_is_read}
use Rattle.hv_task_text.proofs.laws.text_by_lines.Goals as goal

pub returns : goal.returns
returns c = record { text = text_is_read; value = read_is_text }
