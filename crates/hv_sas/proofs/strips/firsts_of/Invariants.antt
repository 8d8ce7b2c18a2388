use Rattle.std.proofs.Common.{ℕ, ◌≡◌, ◌<◌, length, take}
use Rattle.std.specs.List.{slice_index}
use Rattle.hv_sas.specs.Variables.{values_in}
use Rattle.hv_sas.proofs.strips.firsts_of.Given as goal

abbrev pub invariant-loop-variable : goal.invariant-loop-variable
invariant-loop-variable l =
    (l.next ≡ values_in (take l.variable-index l.variables))
    × (length l.firsts.items ≡ l.variable-index)
    × ((v : ℕ) → v < l.variable-index
    → slice_index l.firsts.items v ≡ values_in (take v l.variables))
