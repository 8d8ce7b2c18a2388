use Rattle.std.proofs.Common.{◌≡◌}
use Rattle.std.specs.List.{filter}
use Rattle.std.specs.Prelude.{take}
use Rattle.hv_sets.specs.Truth.{in_clause}
use Rattle.hv_trap.proofs.trap_query.true_in.Given as goal

abbrev pub invariant-loop-place : goal.invariant-loop-place
invariant-loop-place l = l.kept ≡ filter (λ c. in_clause c l.state) (take l.place l.clauses)
