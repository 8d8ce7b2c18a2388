use Rattle.hv_bytes.specs.Fields.{cut_fields}
use Rattle.hv_bytes.specs.Working.Fields.{fields_behind}
use Rattle.hv_proof_text.proofs.Names.{no_pair, no_word}
use Rattle.hv_proof_text.proofs.fields.name_front.Goals as goal

pub returns-in_default-pair_front : goal.returns-in_default-pair_front
returns-in_default-pair_front c =
    no_pair (cut_fields c.args.line.now) c.in_default.ensures c.in_default-pair_front.ensures

pub returns-in_default-spelled : goal.returns-in_default-spelled
returns-in_default-spelled c =
    no_word (cut_fields c.args.line.now) (fields_behind c.in-Some-pair_front.behind (λ f. f.now))
    c.in-Some-pair_front.first c.in-Some-pair_front.second c.in_default.ensures
    c.in-Some-pair_front.ensures c.in_default-spelled.ensures
