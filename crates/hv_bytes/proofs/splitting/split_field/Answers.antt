use Rattle.std.proofs.lemmas.List.{take_rest}
use Rattle.hv_bytes.proofs.LineFields.{cut_fields-at, cut_fields-last}
use Rattle.hv_bytes.proofs.splitting.split_field.Goals as goal

pub returns-in-Some-clause-fields : goal.returns-in-Some-clause-fields
returns-in-Some-clause-fields c = rw take_rest
    (cut_fields-at c.args.line.now c.in-Some.at c.in-Some.ensures.some)

pub returns-in-None-clause-fields : goal.returns-in-None-clause-fields
returns-in-None-clause-fields c = cut_fields-last c.args.line.now c.in-None.ensures.none
