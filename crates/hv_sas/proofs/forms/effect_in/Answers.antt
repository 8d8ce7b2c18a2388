use Rattle.std.proofs.Common.{ap, ◌∙◌, sym}
use Rattle.hv_sas.specs.Lines.{effect_in}
use Rattle.hv_sas.specs.Working.Reading.{fields_after_space}
use Rattle.hv_sas.proofs.Split.{three_none}
use Rattle.hv_sas.proofs.forms.effect_in.Goals as goal

pub returns-in-Some-more-clause-value : goal.returns-in-Some-more-clause-value
returns-in-Some-more-clause-value c =
    three_none c.args.variables.now c.in-Some.fields.now c.in-Some-behind.behind.now
    c.in-Some-behind-2.behind.now c.in-Some-more.field-0.now _ _ _
    (rw c.in-Some-behind.is at c.split_field.ensures.fields)
    (rw c.in-Some-behind-2.is at c.split_field-2.ensures.fields)
    (rw c.in-Some-more.is at c.split_field-3.ensures.fields)
    ∙ ap (λ o. effect_in c.args.variables.now (fields_after_space o)) (sym c.in-Some.is)
