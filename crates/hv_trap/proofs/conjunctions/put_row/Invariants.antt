use Rattle.std.proofs.Common.{◌≡◌, ◌++◌, ◌+◌, ◌-◌}
use Rattle.std.specs.List.{flat_map, range_with_len}
use Rattle.hv_trap.specs.Conjunctions.{denials_of, denies_one, over_two}
use Rattle.hv_trap.proofs.conjunctions.put_row.Given as goal

abbrev pub invariant-loop-second : goal.invariant-loop-second
invariant-loop-second l =
    l.clauses
    ≡ l.fn.clauses ++ denials_of (denies_one l.goal)
    (flat_map (over_two l.first) (range_with_len (l.first + 1) (l.second - (l.first + 1))))
