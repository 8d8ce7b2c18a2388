use Rattle.hv_bytes.specs.Working.Fields.{fields_behind}
use Rattle.hv_proof_text.proofs.KnownForms.{known, no_support}
use Rattle.hv_proof_text.proofs.claims.known_of.Goals as goal

pub returns-in_default-support_of : goal.returns-in_default-support_of
returns-in_default-support_of c =
    no_support c.args.id c.args.kind (fields_behind c.args.fields (λ f. f.now))
    (fields_behind c.in-Some.claim.rest (λ f. f.now)) c.in-Some.claim.statement c.in-Some.ensures
    c.in_default-support_of.ensures

pub returns : goal.returns
returns c =
    known c.args.id c.args.kind (fields_behind c.args.fields (λ f. f.now))
    (fields_behind c.in-Some.claim.rest (λ f. f.now)) c.in-Some.claim.statement c.in-Some.ensures
    c.in-Some-support_of.support.word c.in-Some-support_of.support.premises
    c.in-Some-support_of.ensures
