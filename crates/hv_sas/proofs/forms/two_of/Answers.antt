use Rattle.hv_sas.proofs.Split.{two_none}
use Rattle.hv_sas.proofs.forms.two_of.Goals as goal

pub returns-in-Some-more : goal.returns-in-Some-more
returns-in-Some-more c =
    two_none c.args.line.now c.in-Some.behind.now c.in-Some-more.field-0.now _ _
    (rw c.in-Some.is at c.split_field.ensures.fields)
    (rw c.in-Some-more.is at c.split_field-2.ensures.fields)
