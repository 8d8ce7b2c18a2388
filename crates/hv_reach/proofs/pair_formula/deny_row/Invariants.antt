use Rattle.std.proofs.Common.{◌≡◌, ◌++◌, ◌-◌}
use Rattle.std.specs.List.{flat_map, range_with_len}
use Rattle.hv_reach.specs.Reached.{has_pair}
use Rattle.hv_reach.specs.Written.{pair_clauses}
use Rattle.hv_reach.proofs.pair_formula.deny_row.Given as goal

abbrev pub invariant-loop-second : goal.invariant-loop-second
invariant-loop-second l =
    l.clauses ≡ l.fn.clauses ++ flat_map (pair_clauses (has_pair l.pairs) l.first)
    (range_with_len l.first (l.second - l.first))
