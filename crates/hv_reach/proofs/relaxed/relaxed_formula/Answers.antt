use Rattle.hv_task.specs.State.{has_atom}
use Rattle.hv_reach.specs.Written.{atom_clauses}
use Rattle.hv_lines.proofs.Lists.{pieces_next}
use Rattle.hv_reach.proofs.relaxed.relaxed_formula.Goals as goal

pub loop-atom-preserved : goal.loop-atom-preserved
loop-atom-preserved c =
    pieces_next (atom_clauses (has_atom c.args.reached.now)) c.loop-atom.atom c.loop-atom.clauses
    c.deny_atom.new.clauses
    c.loop-atom.invariant c.in_ok-deny_atom.ensures
