use Rattle.std.proofs.Common.{◌++◌, length}
use Rattle.hv_bytes.specs.Working.Fields.{fields_behind}
use Rattle.hv_proof_text.specs.Working.Gathering.{Gathers}
use Rattle.hv_proof_text.proofs.fields.tokens_in.Given as goal

abbrev pub invariant-fields : goal.invariant-fields
invariant-fields l = Gathers (λ ts. ts) (fields_behind l.fn.fields (λ f. f.now))
    (λ ts. l.tokens.items ++ ts) (fields_behind l.rest (λ f. f.now))

abbrev pub decreases-fields : goal.decreases-fields
decreases-fields l = length (fields_behind l.rest (λ f. f.now))
