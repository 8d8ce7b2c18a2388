use Rattle.hv_task.proofs.Flags.{flags_none}
use Rattle.hv_task.proofs.state.State.empty.Goals as goal

pub returns : goal.returns
returns c = flags_none c.in_ok-zeros.field-0.items c.args.atoms c.in_ok-zeros.ensures.none
