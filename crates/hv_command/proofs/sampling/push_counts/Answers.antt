use Rattle.hv_command.proofs.Sampled.{counts_told}
use Rattle.hv_command.proofs.sampling.push_counts.Goals as goal

pub returns : goal.returns
returns c =
    counts_told c.args.rooms c.args.task.now c.requires c.args.text.now c.push_count.new.text
    c.push_count-2.new.text c.atoms.result c.actions.result
    c.atoms.ensures.atoms c.actions.ensures.actions c.in_ok-push_count.ensures
    c.in_ok-push_count-2.ensures
