use Rattle.std.proofs.Common.{arith}
use Rattle.hv_bytes.specs.Working.Fields.{fields_behind}
use Rattle.hv_proof_text.proofs.KnownForms.{premised_one, premised_three, premised_two}
use Rattle.hv_proof_text.proofs.claims.premises_in.Goals as goal

pub returns-in-1 : goal.returns-in-1
returns-in-1 c = premised_one (fields_behind c.args.fields (λ f. f.now)) c.one_premise.result
    c.args.count c.in-1.is c.one_premise.ensures

pub returns-in-2 : goal.returns-in-2
returns-in-2 c = premised_two (fields_behind c.args.fields (λ f. f.now)) c.two_premises.result
    c.args.count c.in-2.is c.two_premises.ensures

pub returns-in_default : goal.returns-in_default
returns-in_default c = premised_three (fields_behind c.args.fields (λ f. f.now))
    c.three_premises.result c.args.count (omega arith) c.three_premises.ensures
