use Rattle.std.proofs.Common.{◌≡◌, ◌++◌}
use Rattle.std.specs.List.{flat_map, range_with_len}
use Rattle.hv_trap.specs.Conjunctions.{denials_of, denies_one, over_one}
use Rattle.hv_trap.proofs.conjunctions.put_singles.Given as goal

abbrev pub invariant-loop-atom : goal.invariant-loop-atom
invariant-loop-atom l =
    l.clauses ≡ l.fn.clauses ++ denials_of (denies_one l.goal)
    (flat_map over_one (range_with_len 0 l.atom))
