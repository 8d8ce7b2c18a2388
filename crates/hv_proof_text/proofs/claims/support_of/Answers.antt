use Rattle.std.proofs.Common.{sym}
use Rattle.hv_bytes.specs.Working.Fields.{fields_behind}
use Rattle.hv_proof_text.proofs.KnownForms.{not_premises}
use Rattle.hv_proof_text.proofs.claims.support_of.Goals as goal

pub returns-in_default-premises_in : goal.returns-in_default-premises_in
returns-in_default-premises_in c =
    not_premises c.args.statement.now (fields_behind c.args.fields (λ f. f.now))
    (fields_behind c.in-Some.behind (λ f. f.now)) c.in-Some.word c.in-Some.ensures
    c.in-Some-premises_after.count (sym c.in-Some-premises_after.ensures.same)
    c.in_default-premises_in.ensures
