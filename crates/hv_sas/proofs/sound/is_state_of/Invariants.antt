use Rattle.std.proofs.Common.{ℕ, ◌<◌}
use Rattle.std.specs.List.{slice_index}
use Rattle.hv_sas.specs.Variables.{range_at}
use Rattle.hv_sas.proofs.sound.is_state_of.Given as goal

abbrev pub invariant-loop-var : goal.invariant-loop-var
invariant-loop-var l =
    (v : ℕ) → v < l.var → slice_index l.state v < range_at l.variables v
