use Rattle.std.proofs.Common.{[], ap, subst}
use Rattle.hv_bytes.specs.Working.Fields.{fields_behind}
use Rattle.hv_proof_text.specs.Working.Tokens.{AreTokens}
use Rattle.hv_proof_text.proofs.KnownForms.{more_fields}
use Rattle.hv_proof_text.proofs.claims.no_premises.Goals as goal

pub returns-in-Some : goal.returns-in-Some
returns-in-Some c = λ are.
    let fields = ap (λ o. fields_behind o (λ f. f.now)) c.in-Some.is in
    more_fields c.in-Some.field-0.now (subst (AreTokens []) fields are)
