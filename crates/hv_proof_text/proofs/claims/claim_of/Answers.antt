use Rattle.hv_bytes.specs.Working.Fields.{fields_behind}
use Rattle.hv_proof_text.proofs.KnownForms.{act_read, dead_read, sub_read}
use Rattle.hv_proof_text.proofs.claims.claim_of.Goals as goal

pub returns-in-Some : goal.returns-in-Some
returns-in-Some c = rw c.in-S.is
    (sub_read (fields_behind c.args.fields (λ f. f.now))
    (fields_behind c.in-Some.first.rest (λ f. f.now)) c.in-Some.first.left c.in-Some.first.right
    c.in-Some.ensures.0 c.in-Some.ensures.1 c.in-Some.ensures.2)

pub returns-in-Some-two_first : goal.returns-in-Some-two_first
returns-in-Some-two_first c = rw c.in-A.is
    (act_read (fields_behind c.args.fields (λ f. f.now))
    (fields_behind c.in-Some-two_first.first.rest (λ f. f.now)) c.in-Some-two_first.first.left
    c.in-Some-two_first.first.right c.in-Some-two_first.ensures.0 c.in-Some-two_first.ensures.1
    c.in-Some-two_first.ensures.2)

pub returns-in-Some-first_number : goal.returns-in-Some-first_number
returns-in-Some-first_number c = rw c.in-D.is
    (dead_read (fields_behind c.args.fields (λ f. f.now))
    (fields_behind c.in-Some-first_number.rest (λ f. f.now)) c.in-Some-first_number.set
    c.in-Some-first_number.ensures.0 c.in-Some-first_number.ensures.1)
