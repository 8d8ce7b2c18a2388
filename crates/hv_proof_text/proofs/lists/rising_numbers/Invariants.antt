use Rattle.std.proofs.Common.{[], length}
use Rattle.hv_bytes.specs.Working.Fields.{fields_behind}
use Rattle.hv_proof_text.specs.Working.Gathering.{Gathers, numbers_from}
use Rattle.hv_proof_text.proofs.lists.rising_numbers.Given as goal

abbrev pub invariant-fields : goal.invariant-fields
invariant-fields l = Gathers (numbers_from [] 0) (fields_behind l.fn.fields (λ f. f.now))
    (numbers_from l.numbers l.least) (fields_behind l.rest (λ f. f.now))

abbrev pub decreases-fields : goal.decreases-fields
decreases-fields l = length (fields_behind l.rest (λ f. f.now))
