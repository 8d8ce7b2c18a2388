use Rattle.std.proofs.Common.{◌≡◌}
use Rattle.std.specs.List.{flat_map, range_with_len}
use Rattle.hv_reach.specs.Reached.{has_pair}
use Rattle.hv_reach.specs.Written.{row_clauses}
use Rattle.hv_reach.proofs.pair_formula.pairs_formula.Given as goal

abbrev pub invariant-loop-first : goal.invariant-loop-first
invariant-loop-first l = l.clauses ≡ flat_map (row_clauses l.atoms (has_pair l.pairs))
    (range_with_len 0 l.first)
