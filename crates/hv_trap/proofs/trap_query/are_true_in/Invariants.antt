use Rattle.std.proofs.Common.{◌≡◌, ℕ, ◌<◌, [], true, get_or}
use Rattle.hv_sets.specs.Truth.{in_clause}
use Rattle.hv_trap.proofs.trap_query.are_true_in.Given as goal

abbrev pub invariant-loop-place : goal.invariant-loop-place
invariant-loop-place l = (k : ℕ) → k < l.place → in_clause (get_or l.clauses k []) l.state ≡ true
