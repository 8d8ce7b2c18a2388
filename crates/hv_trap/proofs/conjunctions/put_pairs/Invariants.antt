use Rattle.std.proofs.Common.{◌≡◌, ◌++◌}
use Rattle.std.specs.List.{flat_map, range_with_len}
use Rattle.hv_trap.specs.Conjunctions.{denials_of, denies_one, over_greater}
use Rattle.hv_trap.proofs.conjunctions.put_pairs.Given as goal

abbrev pub invariant-loop-first : goal.invariant-loop-first
invariant-loop-first l =
    l.clauses ≡ l.fn.clauses ++ denials_of (denies_one l.goal)
    (flat_map (over_greater l.atoms) (range_with_len 0 l.first))
