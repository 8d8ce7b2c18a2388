-- Working definitions beside those of `Expanded`: for private contracts and proofs.
use Rattle.std.specs.Prelude.{Bool, List}
use Rattle.hv_sets.specs.Truth.{InStates}
use Rattle.hv_replay.specs.Logs.{SearchLog}
use Rattle.hv_replay.specs.Expanded.{expanded_states}

-- the state is one of them
abbrev pub IsExpanded : SearchLog → List Bool → Type 0
IsExpanded log state = InStates log.atoms (expanded_states log) state
