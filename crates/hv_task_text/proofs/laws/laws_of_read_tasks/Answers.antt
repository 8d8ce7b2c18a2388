use Rattle.hv_task_text.proofs.TaskTexts.{is_task, writable_names}
use Rattle.hv_task_text.proofs.laws.laws_of_read_tasks.Goals as goal

pub returns : goal.returns
returns c = record { tasks = is_task; names = writable_names }
