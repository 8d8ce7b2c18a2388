use Rattle.std.proofs.Common.{ℕ, ◌<◌, [], get_or}
use Rattle.hv_sets.specs.Cubes.{SpeakBelow}
use Rattle.hv_checker.proofs.conditions.clauses_are_below.Given as goal

abbrev pub invariant-loop-place : goal.invariant-loop-place
invariant-loop-place l = (k : ℕ) → k < l.place → SpeakBelow l.count (get_or l.clauses k [])
