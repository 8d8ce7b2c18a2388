use Rattle.std.proofs.Common.{◌≡◌}
use Rattle.std.specs.List.{flat_map, range_with_len}
use Rattle.hv_task.specs.State.{has_atom}
use Rattle.hv_reach.specs.Written.{atom_clauses}
use Rattle.hv_reach.proofs.relaxed.relaxed_formula.Given as goal

abbrev pub invariant-loop-atom : goal.invariant-loop-atom
invariant-loop-atom l = l.clauses ≡ flat_map (atom_clauses (has_atom l.reached))
    (range_with_len 0 l.atom)
