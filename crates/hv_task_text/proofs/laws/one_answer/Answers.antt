use Rattle.hv_task_text.proofs.OneAnswer.{one_fault, one_task, text_or_fault}
use Rattle.hv_task_text.proofs.laws.one_answer.Goals as goal

pub returns : goal.returns
returns c = record { one_task = one_task; text_or_fault = text_or_fault; one_fault = one_fault }
