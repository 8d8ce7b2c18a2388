use Rattle.std.proofs.Common.{◌<◌, ℕ, [], get_or}
use Rattle.hv_basic.specs.Working.Excluded.{IsExclusion}
use Rattle.hv_basic.proofs.companions.excluded_value.Given as goal

abbrev pub invariant-loop-place : goal.invariant-loop-place
invariant-loop-place l =
    (i : ℕ) → i < l.place → IsExclusion l.atoms l.value (get_or l.clauses i [])
