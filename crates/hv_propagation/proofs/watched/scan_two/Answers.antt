use Rattle.std.proofs.Common.{◌∙◌, Some, ap, sym}
use Rattle.hv_propagation.specs.Trail.{marks_of}
use Rattle.hv_propagation.proofs.Scanned.{both_false, first_open, first_true, second_open}
use Rattle.hv_propagation.proofs.Scanned.{second_true}
use Rattle.hv_propagation.proofs.watched.scan_two.Goals as goal

pub returns-in-Some-true : goal.returns-in-Some-true
returns-in-Some-true c =
    first_true c.args.effect.now (marks_of c.args.marks.now) c.args.one c.args.two
    (sym c.value.ensures ∙ (c.in-Some-true.is ∙ ap Some c.in-Some-true.field-0-test))

pub returns-in-Some-true-value : goal.returns-in-Some-true-value
returns-in-Some-true-value c =
    second_true c.args.effect.now (marks_of c.args.marks.now) c.args.one c.args.two
    (sym c.value-in-Some-false.ensures
    ∙ (c.in-Some-true-value.is ∙ ap Some c.in-Some-true-value.field-0-test))

pub returns-in-Some-false-value : goal.returns-in-Some-false-value
returns-in-Some-false-value c =
    both_false c.args.effect.now (marks_of c.args.marks.now) c.args.one c.args.two
    (sym c.value.ensures ∙ (c.in-Some-false.is ∙ ap Some c.in-Some-false.field-0-test))
    (sym c.value-in-Some-false.ensures
    ∙ (c.in-Some-false-value.is ∙ ap Some c.in-Some-false-value.field-0-test))

pub returns-in-None-value : goal.returns-in-None-value
returns-in-None-value c =
    second_open c.args.effect.now (marks_of c.args.marks.now) c.args.one c.args.two
    (sym c.value.ensures ∙ (c.in-Some-false.is ∙ ap Some c.in-Some-false.field-0-test))
    (sym c.value-in-Some-false.ensures ∙ c.in-None-value.is)

pub returns-in-Some-true-value-2 : goal.returns-in-Some-true-value-2
returns-in-Some-true-value-2 c =
    second_true c.args.effect.now (marks_of c.args.marks.now) c.args.one c.args.two
    (sym c.value-in-None.ensures
    ∙ (c.in-Some-true-value-2.is ∙ ap Some c.in-Some-true-value-2.field-0-test))

pub returns-in-Some-false-value-2 : goal.returns-in-Some-false-value-2
returns-in-Some-false-value-2 c =
    first_open c.args.effect.now (marks_of c.args.marks.now) c.args.one c.args.two
    (sym c.value.ensures ∙ c.in-None.is)
    (sym c.value-in-None.ensures
    ∙ (c.in-Some-false-value-2.is ∙ ap Some c.in-Some-false-value-2.field-0-test))
