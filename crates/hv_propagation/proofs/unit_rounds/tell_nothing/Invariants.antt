use Rattle.std.proofs.Common.{ℕ, List, ◌<◌, get_or}
use Rattle.hv_sets.specs.declared.literal.Literal.{Literal}
use Rattle.hv_propagation.specs.Working.UnitRounds.{HasTwo}
use Rattle.hv_propagation.proofs.unit_rounds.tell_nothing.Given as goal

abbrev pub invariant-loop-place : goal.invariant-loop-place
invariant-loop-place l = (k : ℕ) (d : List Literal) → k < l.place → HasTwo (get_or l.clauses k d)
