use Rattle.std.proofs.Common.{[], length}
use Rattle.hv_bytes.specs.Working.Fields.{fields_behind}
use Rattle.hv_proof_text.specs.Working.Gathering.{Gathers, clauses_from}
use Rattle.hv_proof_text.proofs.lists.clauses_in.Given as goal

abbrev pub invariant-fields : goal.invariant-fields
invariant-fields l = Gathers (clauses_from [] []) (fields_behind l.fn.fields (λ f. f.now))
    (clauses_from l.clauses.whole l.clauses.begun) (fields_behind l.rest (λ f. f.now))

abbrev pub decreases-fields : goal.decreases-fields
decreases-fields l = length (fields_behind l.rest (λ f. f.now))
