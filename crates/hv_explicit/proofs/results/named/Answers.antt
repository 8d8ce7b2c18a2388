use Rattle.std.proofs.lemmas.Bool.Decides.{same_from_decides}
use Rattle.hv_task.proofs.Places.{names_atom-Decides}
use Rattle.hv_task.specs.State.{names_atom}
use Rattle.hv_explicit.proofs.results.named.Goals as goal

pub returns : goal.returns
returns c = same_from_decides c.names_atom.result (names_atom c.args.list.now c.args.atom)
    c.names_atom.ensures (names_atom-Decides c.args.list.now c.args.atom)
