use Rattle.std.proofs.Common.{◌<◌, [], length}
use Rattle.std.specs.List.{All}
use Rattle.hv_bytes.specs.Working.Fields.{fields_behind}
use Rattle.hv_proof_text.specs.Working.Gathering.{Gathers, states_from}
use Rattle.hv_proof_text.proofs.lists.states_in.Given as goal

abbrev pub invariant-fields : goal.invariant-fields
invariant-fields l = record {
  same : Gathers (states_from [] [] 0) (fields_behind l.fn.fields (λ f. f.now))
      (states_from l.states.whole l.states.begun l.least) (fields_behind l.rest (λ f. f.now));
  below : All (λ a. a < l.least) l.states.begun;
}

abbrev pub decreases-fields : goal.decreases-fields
decreases-fields l = length (fields_behind l.rest (λ f. f.now))
