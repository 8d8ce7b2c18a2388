use Rattle.std.proofs.Common.{[]}
use Rattle.hv_bytes.specs.Fields.{cut_fields}
use Rattle.hv_bytes.specs.Working.Fields.{fields_behind}
use Rattle.hv_proof_text.proofs.KnownForms.{behind_number, more_fields}
use Rattle.hv_proof_text.proofs.claims.last_number.Goals as goal

pub returns-in-Some-default-Some : goal.returns-in-Some-default-Some
returns-in-Some-default-Some c = λ n are.
    let read = rw c.in-Some-default-Some.field-0-1-is at c.in-Some-default-Some.ensures in
    more_fields c.in-Some-default-Some.field-0-1-0.now
    (behind_number c.in-Some-default-Some.field-0-0 n []
    (fields_behind c.args.fields (λ f. f.now))
    (cut_fields c.in-Some-default-Some.field-0-1-0.now) read.1 are)
